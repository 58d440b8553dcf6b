use Rattle.std.proofs.Common.{refl, ap, ◌∙◌}
use Rattle.scene.specs.Parts.{view_pat_node, view_subs}
use Rattle.scene.proofs.Under.{sound_of, subs_read_below}
use Rattle.events.proofs.Asking.{asked_exit, ask_turn, ask_end, pat_read, pat_read_on}
use Rattle.events.proofs.matches.+walk_pat.Goals as goal

pub returns-in_err-asked : goal.returns-in_err-asked
returns-in_err-asked g t c =
    asked_exit _ c.from_residual.ensures.1
    ∙ pat_read _ (sound_of c.args.scene.now.body.now) c.args.n (view_pat_node c.pat_at-node.result) _ _ _ c.pat_at-node.ensures c.in_err-asked.ensures

pub loop-sub-init : goal.loop-sub-init
loop-sub-init g t c =
    (refl, subs_read_below _ (sound_of c.args.scene.now.body.now) c.args.n c.pat_at-node.result _ c.pat_at-node.ensures (ap view_subs c.into_iter-sub-iterator.ensures.into_iter_gives ∙ c.of-sub-items.ensures))

pub returns-in_err-asked-2 : goal.returns-in_err-asked-2
returns-in_err-asked-2 g t c =
    asked_exit _ c.from_residual-in_err-asked-2.ensures.1
    ∙ ask_turn _ _ _ c.in-Some.ensures.steps c.in_err-asked-2.ensures
    ∙ c.loop-sub.invariant.0
    ∙ pat_read_on _ (sound_of c.args.scene.now.body.now) c.args.n (view_pat_node c.pat_at-node.result) _ _ _ _ _ c.pat_at-node.ensures c.in_ok-asked.ensures
    (ap view_subs c.into_iter-sub-iterator.ensures.into_iter_gives ∙ c.of-sub-items.ensures) c.mut_behind-inside.ensures

pub returns : goal.returns
returns g t c =
    ask_end _ _ _ c.in-None.ensures.steps.0
    ∙ c.loop-sub.invariant.0
    ∙ pat_read_on _ (sound_of c.args.scene.now.body.now) c.args.n (view_pat_node c.pat_at-node.result) _ _ _ _ _ c.pat_at-node.ensures c.in_ok-asked.ensures
    (ap view_subs c.into_iter-sub-iterator.ensures.into_iter_gives ∙ c.of-sub-items.ensures) c.mut_behind-inside.ensures
