use Rattle.std.proofs.Common.{◌-◌, ◌∙◌, cond, eqb, [], ◌++◌, refl, sym, ap, append_assoc, slice_index_or, rules}
use Rattle.std.proofs.lemmas.Bool.{ne_eqb, cond-false}
use Rattle.reader.specs.Numbers.{numbers}
use Rattle.node.specs.declared.nodes.Expr.{Expr}
use Rattle.node.specs.Lists.{no_adjustment, pairs, triples}
use Rattle.node.specs.Nodes.{view_expr, view_pat}
use Rattle.scale.specs.declared.modes.Mode.TheVariants.{Mut, Move}
use Rattle.place.specs.Places.{spot}
use Rattle.scene.specs.Parts.{expr_at, sub_pats, view_subs}
use Rattle.scene.specs.Places.{field_on}
use Rattle.scene.specs.Scenes.{Setting, setting}
use Rattle.scene.proofs.Under.{sound_of, expr_read_below, pat_read_below, subs_read_below}
use Rattle.events.specs.Captures.{place, with_place, match_place, borrows, ref_capture_with_adjusts}
use Rattle.events.proofs.Plays.{ran_as, ran_refused}
use Rattle.walk.specs.Walks.{Marked, doing, walk_with_adjust, walk_form, use_expr, consume_exprs, let_value, bind_place, assign_from, walk_arms, consume_fields, consume_pats, consume_form, assign_form, assign_pats}
use Rattle.walk.proofs.Doings.{walked_read, consumed_read, assigned_read, adjusted_turn}
use Rattle.walk.proofs.Steps.{does_seq, does_stop, does_exit, does_as, each_step, each_exit, each_end}
use Rattle.walk.proofs.exprs.+walk.Goals as goal

pub adjusted-returns-in_err-capture_adjusted_of : goal.adjusted-returns-in_err-capture_adjusted_of
adjusted-returns-in_err-capture_adjusted_of g t c =
    let s = setting g.W.World.means g.I.Inner.tells c.args.recorder.now.scene.now in
    let first : Setting → Marked = (λ s i. ref_capture_with_adjusts s (borrows (slice_index_or (expr_at s.body c.args.n).adjusts (c.args.count - 1) no_adjustment).kind) c.args.n (c.args.count - 1)) in
    let more : Setting → Marked = (λ s i. walk_with_adjust s c.args.n (c.args.count - 1) (walk_form s (doing s) c.args.n (view_expr c.args.node.expr) i)) in
    does_as g.W.World.means g.I.Inner.tells (λ s i. first s i ++ more s i) (λ s i. walk_with_adjust s c.args.n c.args.count (walk_form s (doing s) c.args.n (view_expr c.args.node.expr) i)) c.args.recorder.now c.capture_adjusted_of.new.self c.args.mark.now c.args.mark.now (adjusted_turn s c.args.n c.args.count _ c.if-count-eq0.false)
    (does_exit g.W.World.means g.I.Inner.tells first more c.args.recorder.now c.capture_adjusted_of.new.self c.args.mark.now c.args.mark.now (refl, c.in_err-capture_adjusted_of.ensures) c.from_residual.ensures.1)

pub adjusted-returns : goal.adjusted-returns
adjusted-returns g t c =
    let s = setting g.W.World.means g.I.Inner.tells c.args.recorder.now.scene.now in
    let first : Setting → Marked = (λ s i. ref_capture_with_adjusts s (borrows (slice_index_or (expr_at s.body c.args.n).adjusts (c.args.count - 1) no_adjustment).kind) c.args.n (c.args.count - 1)) in
    let more : Setting → Marked = (λ s i. walk_with_adjust s c.args.n (c.args.count - 1) (walk_form s (doing s) c.args.n (view_expr c.args.node.expr) i)) in
    does_as g.W.World.means g.I.Inner.tells (λ s i. first s i ++ more s i) (λ s i. walk_with_adjust s c.args.n c.args.count (walk_form s (doing s) c.args.n (view_expr c.args.node.expr) i)) c.args.recorder.now c.adjusted.new.recorder c.args.mark.now c.adjusted.new.mark (adjusted_turn s c.args.n c.args.count _ c.if-count-eq0.false)
    (does_seq g.W.World.means g.I.Inner.tells first more c.args.recorder.now c.capture_adjusted_of.new.self c.args.mark.now c.args.mark.now c.adjusted.new.recorder c.adjusted.new.mark (refl, c.in_ok-capture_adjusted_of.ensures) (c.adjusted.ensures))

pub walk_expr-adjusted-requires : goal.walk_expr-adjusted-requires
walk_expr-adjusted-requires g t c κs within =
    let b = expr_read_below _ (sound_of c.args.recorder.now.scene.now.body.now) c.args.n c.expr_at-node.result c.expr_at-node.ensures in search rules

pub walk_expr-returns : goal.walk_expr-returns
walk_expr-returns g t c =
    let s = setting g.W.World.means g.I.Inner.tells c.args.recorder.now.scene.now in
    does_as g.W.World.means g.I.Inner.tells (λ s i. walk_with_adjust s c.args.n c.len.result (walk_form s (doing s) c.args.n (view_expr c.expr_at-node.result.expr) i)) (λ s. (doing s c.args.n).walked) c.args.recorder.now c.adjusted.new.recorder c.args.mark.now c.adjusted.new.mark
    (walked_read s (sound_of c.args.recorder.now.scene.now.body.now) c.args.n c.expr_at-node.result _ c.args.mark.now.inside c.expr_at-node.ensures c.len.ensures) c.adjusted.ensures

pub consume_with_pat-returns-in_err-behind : goal.consume_with_pat-returns-in_err-behind
consume_with_pat-returns-in_err-behind g t c =
    let s = setting g.W.World.means g.I.Inner.tells c.args.recorder.now.scene.now in
    (refl, ran_as (consumed_read s (sound_of c.args.recorder.now.scene.now.body.now) c.args.n c.pat_at-node.result (spot c.args.place) c.args.mark.now.inside _ c.pat_at-node.ensures c.in_err-behind.ensures) (ran_refused _ c.from_residual.ensures.1))

pub consume_with_pat-take_form-requires : goal.consume_with_pat-take_form-requires
consume_with_pat-take_form-requires g t c κs within =
    let b = pat_read_below _ (sound_of c.args.recorder.now.scene.now.body.now) c.args.n c.pat_at-node.result c.pat_at-node.ensures in search rules

pub consume_with_pat-returns : goal.consume_with_pat-returns
consume_with_pat-returns g t c =
    let s = setting g.W.World.means g.I.Inner.tells c.args.recorder.now.scene.now in
    does_as g.W.World.means g.I.Inner.tells (λ s. consume_form s (doing s) c.args.n (view_pat c.pat_at-node.result.pat) (spot c.in_ok-behind.behind)) (λ s. (doing s c.args.n).consumed (spot c.args.place)) c.args.recorder.now c.take_form.new.recorder c.args.mark.now c.take_form.new.mark
    (consumed_read s (sound_of c.args.recorder.now.scene.now.body.now) c.args.n c.pat_at-node.result (spot c.args.place) c.args.mark.now.inside _ c.pat_at-node.ensures c.in_ok-behind.ensures) c.take_form.ensures

pub consume_all-loop-child-preserved : goal.consume_all-loop-child-preserved
consume_all-loop-child-preserved g t c =
    (each_step g.W.World.means g.I.Inner.tells (λ s. consume_exprs s (doing s)) (λ s. use_expr s (doing s) Move) (λ s i. refl) (λ s x xs i. refl) (numbers c.args.children.bytes.now) c.args.recorder.now c.loop-child.recorder c.use_expr.new.recorder c.args.mark.now c.loop-child.mark c.use_expr.new.mark c.in-Some.ensures.steps c.loop-child.invariant.0 c.in_ok-use_expr.ensures, (rw c.in-Some.ensures.steps at c.loop-child.invariant.1).1)

pub consume_all-returns-in_err-use_expr : goal.consume_all-returns-in_err-use_expr
consume_all-returns-in_err-use_expr g t c =
    each_exit g.W.World.means g.I.Inner.tells (λ s. consume_exprs s (doing s)) (λ s. use_expr s (doing s) Move) (λ s i. refl) (λ s x xs i. refl) (numbers c.args.children.bytes.now) c.args.recorder.now c.loop-child.recorder c.use_expr.new.recorder c.args.mark.now c.loop-child.mark c.use_expr.new.mark c.in-Some.ensures.steps c.loop-child.invariant.0 c.in_err-use_expr.ensures c.from_residual.ensures.1

pub consume_all-returns : goal.consume_all-returns
consume_all-returns g t c =
    each_end g.W.World.means g.I.Inner.tells (λ s. consume_exprs s (doing s)) (λ s. use_expr s (doing s) Move) (λ s i. refl) (λ s x xs i. refl) (numbers c.args.children.bytes.now) c.args.recorder.now c.loop-child.recorder c.args.mark.now c.loop-child.mark c.in-None.ensures.steps.0 c.loop-child.invariant.0

pub take_fields-loop-field-preserved : goal.take_fields-loop-field-preserved
take_fields-loop-field-preserved g t c =
    (each_step g.W.World.means g.I.Inner.tells (λ s. consume_fields s (doing s) (spot c.args.place)) (λ s x i. with_place (field_on (spot c.args.place) x.step) (λ q. (doing s x.pat).consumed q i)) (λ s i. refl) (λ s x xs i. refl) (pairs (numbers c.args.fields.bytes.now)) c.args.recorder.now c.loop-field.recorder c.take_field.new.recorder c.args.mark.now c.loop-field.mark c.take_field.new.mark c.in-Some.ensures.steps c.loop-field.invariant.0 c.in_ok-take_field.ensures, (rw c.in-Some.ensures.steps at c.loop-field.invariant.1).1)

pub take_fields-returns-in_err-take_field : goal.take_fields-returns-in_err-take_field
take_fields-returns-in_err-take_field g t c =
    each_exit g.W.World.means g.I.Inner.tells (λ s. consume_fields s (doing s) (spot c.args.place)) (λ s x i. with_place (field_on (spot c.args.place) x.step) (λ q. (doing s x.pat).consumed q i)) (λ s i. refl) (λ s x xs i. refl) (pairs (numbers c.args.fields.bytes.now)) c.args.recorder.now c.loop-field.recorder c.take_field.new.recorder c.args.mark.now c.loop-field.mark c.take_field.new.mark c.in-Some.ensures.steps c.loop-field.invariant.0 c.in_err-take_field.ensures c.from_residual.ensures.1

pub take_fields-returns : goal.take_fields-returns
take_fields-returns g t c =
    each_end g.W.World.means g.I.Inner.tells (λ s. consume_fields s (doing s) (spot c.args.place)) (λ s x i. with_place (field_on (spot c.args.place) x.step) (λ q. (doing s x.pat).consumed q i)) (λ s i. refl) (λ s x xs i. refl) (pairs (numbers c.args.fields.bytes.now)) c.args.recorder.now c.loop-field.recorder c.args.mark.now c.loop-field.mark c.in-None.ensures.steps.0 c.loop-field.invariant.0

pub take_pats-loop-pat-preserved : goal.take_pats-loop-pat-preserved
take_pats-loop-pat-preserved g t c =
    (each_step g.W.World.means g.I.Inner.tells (λ s. consume_pats s (doing s) (spot c.args.place)) (λ s x. (doing s x).consumed (spot c.args.place)) (λ s i. refl) (λ s x xs i. refl) (numbers c.args.pats.bytes.now) c.args.recorder.now c.loop-pat.recorder c.consume_with_pat.new.recorder c.args.mark.now c.loop-pat.mark c.consume_with_pat.new.mark c.in-Some.ensures.steps c.loop-pat.invariant.0 c.in_ok-consume_with_pat.ensures, (rw c.in-Some.ensures.steps at c.loop-pat.invariant.1).1)

pub take_pats-returns-in_err-consume_with_pat : goal.take_pats-returns-in_err-consume_with_pat
take_pats-returns-in_err-consume_with_pat g t c =
    each_exit g.W.World.means g.I.Inner.tells (λ s. consume_pats s (doing s) (spot c.args.place)) (λ s x. (doing s x).consumed (spot c.args.place)) (λ s i. refl) (λ s x xs i. refl) (numbers c.args.pats.bytes.now) c.args.recorder.now c.loop-pat.recorder c.consume_with_pat.new.recorder c.args.mark.now c.loop-pat.mark c.consume_with_pat.new.mark c.in-Some.ensures.steps c.loop-pat.invariant.0 c.in_err-consume_with_pat.ensures c.from_residual.ensures.1

pub take_pats-returns : goal.take_pats-returns
take_pats-returns g t c =
    each_end g.W.World.means g.I.Inner.tells (λ s. consume_pats s (doing s) (spot c.args.place)) (λ s x. (doing s x).consumed (spot c.args.place)) (λ s i. refl) (λ s x xs i. refl) (numbers c.args.pats.bytes.now) c.args.recorder.now c.loop-pat.recorder c.args.mark.now c.loop-pat.mark c.in-None.ensures.steps.0 c.loop-pat.invariant.0

pub assign_pat-assign_form-requires : goal.assign_pat-assign_form-requires
assign_pat-assign_form-requires g t c κs within =
    let b = pat_read_below _ (sound_of c.args.recorder.now.scene.now.body.now) c.args.n c.pat_at-node.result c.pat_at-node.ensures in search rules

pub assign_pat-returns-in_err-assign_form : goal.assign_pat-returns-in_err-assign_form
assign_pat-returns-in_err-assign_form g t c =
    let s = setting g.W.World.means g.I.Inner.tells c.args.recorder.now.scene.now in
    let first : Setting → Marked = (λ s. assign_form s (doing s) c.args.n (view_pat c.pat_at-node.result.pat)) in
    let more : Setting → Marked = (λ s. assign_pats s (doing s) (sub_pats (view_pat c.pat_at-node.result.pat))) in
    does_as g.W.World.means g.I.Inner.tells (λ s i. first s i ++ more s i) (λ s. (doing s c.args.n).assigned) c.args.recorder.now c.assign_form.new.recorder c.args.mark.now c.assign_form.new.mark
    (assigned_read s (sound_of c.args.recorder.now.scene.now.body.now) c.args.n c.pat_at-node.result c.args.mark.now.inside _ c.pat_at-node.ensures refl)
    (does_exit g.W.World.means g.I.Inner.tells first more c.args.recorder.now c.assign_form.new.recorder c.args.mark.now c.assign_form.new.mark (c.in_err-assign_form.ensures) c.from_residual.ensures.1)

pub assign_pat-loop-sub-init : goal.assign_pat-loop-sub-init
assign_pat-loop-sub-init g t c =
    ((refl, refl, λ d r x. x), subs_read_below _ (sound_of c.args.recorder.now.scene.now.body.now) c.args.n c.pat_at-node.result _ c.pat_at-node.ensures (ap view_subs c.into_iter-sub-iterator.ensures.into_iter_gives ∙ c.of-sub-items.ensures))

pub assign_pat-loop-sub-preserved : goal.assign_pat-loop-sub-preserved
assign_pat-loop-sub-preserved g t c =
    (each_step g.W.World.means g.I.Inner.tells (λ s. assign_pats s (doing s)) (λ s x. (doing s x).assigned) (λ s i. refl) (λ s x xs i. refl) (view_subs c.into_iter-sub-iterator.result) c.assign_form.new.recorder c.loop-sub.recorder c.assign_pat.new.recorder c.assign_form.new.mark c.loop-sub.mark c.assign_pat.new.mark c.in-Some.ensures.steps c.loop-sub.invariant.0 c.in_ok-assign_pat.ensures, (rw c.in-Some.ensures.steps at c.loop-sub.invariant.1).1)

pub assign_pat-returns-in_err-assign_pat : goal.assign_pat-returns-in_err-assign_pat
assign_pat-returns-in_err-assign_pat g t c =
    let s = setting g.W.World.means g.I.Inner.tells c.args.recorder.now.scene.now in
    let first : Setting → Marked = (λ s. assign_form s (doing s) c.args.n (view_pat c.pat_at-node.result.pat)) in
    let more : Setting → Marked = (λ s. assign_pats s (doing s) (view_subs c.into_iter-sub-iterator.result)) in
    does_as g.W.World.means g.I.Inner.tells (λ s i. first s i ++ more s i) (λ s. (doing s c.args.n).assigned) c.args.recorder.now c.assign_pat.new.recorder c.args.mark.now c.assign_pat.new.mark
    (assigned_read s (sound_of c.args.recorder.now.scene.now.body.now) c.args.n c.pat_at-node.result c.args.mark.now.inside _ c.pat_at-node.ensures (ap view_subs c.into_iter-sub-iterator.ensures.into_iter_gives ∙ c.of-sub-items.ensures))
    (does_seq g.W.World.means g.I.Inner.tells first more c.args.recorder.now c.assign_form.new.recorder c.args.mark.now c.assign_form.new.mark c.assign_pat.new.recorder c.assign_pat.new.mark (c.in_ok-assign_form.ensures) (each_exit g.W.World.means g.I.Inner.tells (λ s. assign_pats s (doing s)) (λ s x. (doing s x).assigned) (λ s i. refl) (λ s x xs i. refl) (view_subs c.into_iter-sub-iterator.result) c.assign_form.new.recorder c.loop-sub.recorder c.assign_pat.new.recorder c.assign_form.new.mark c.loop-sub.mark c.assign_pat.new.mark c.in-Some.ensures.steps c.loop-sub.invariant.0 c.in_err-assign_pat.ensures c.from_residual-in_err-assign_pat.ensures.1))

pub assign_pat-returns : goal.assign_pat-returns
assign_pat-returns g t c =
    let s = setting g.W.World.means g.I.Inner.tells c.args.recorder.now.scene.now in
    let first : Setting → Marked = (λ s. assign_form s (doing s) c.args.n (view_pat c.pat_at-node.result.pat)) in
    let more : Setting → Marked = (λ s. assign_pats s (doing s) (view_subs c.into_iter-sub-iterator.result)) in
    does_as g.W.World.means g.I.Inner.tells (λ s i. first s i ++ more s i) (λ s. (doing s c.args.n).assigned) c.args.recorder.now c.loop-sub.recorder c.args.mark.now c.loop-sub.mark
    (assigned_read s (sound_of c.args.recorder.now.scene.now.body.now) c.args.n c.pat_at-node.result c.args.mark.now.inside _ c.pat_at-node.ensures (ap view_subs c.into_iter-sub-iterator.ensures.into_iter_gives ∙ c.of-sub-items.ensures))
    (does_seq g.W.World.means g.I.Inner.tells first more c.args.recorder.now c.assign_form.new.recorder c.args.mark.now c.assign_form.new.mark c.loop-sub.recorder c.loop-sub.mark (c.in_ok-assign_form.ensures) (each_end g.W.World.means g.I.Inner.tells (λ s. assign_pats s (doing s)) (λ s x. (doing s x).assigned) (λ s i. refl) (λ s x xs i. refl) (view_subs c.into_iter-sub-iterator.result) c.assign_form.new.recorder c.loop-sub.recorder c.assign_form.new.mark c.loop-sub.mark c.in-None.ensures.steps.0 c.loop-sub.invariant.0))

pub walk_arms-returns-in_err-use_expr : goal.walk_arms-returns-in_err-use_expr
walk_arms-returns-in_err-use_expr g t c =
    each_exit g.W.World.means g.I.Inner.tells (λ s. walk_arms s (doing s)) (λ s x i. use_expr s (doing s) Move x.body i ++ cond (eqb x.guard 0) [] (use_expr s (doing s) Move x.guard i)) (λ s i. refl) (λ s x xs i. sym (append_assoc (use_expr s (doing s) Move x.body i) _ _)) (triples (numbers c.args.arms.bytes.now)) c.args.recorder.now c.loop-arm.recorder c.use_expr.new.recorder c.args.mark.now c.loop-arm.mark c.use_expr.new.mark c.in-Some.ensures.steps c.loop-arm.invariant.0 (does_stop g.W.World.means g.I.Inner.tells (λ s. use_expr s (doing s) Move c.in-Some.arm.body) (λ s i. cond (eqb c.in-Some.arm.guard 0) [] (use_expr s (doing s) Move c.in-Some.arm.guard i)) c.loop-arm.recorder c.use_expr.new.recorder c.loop-arm.mark c.use_expr.new.mark c.in_err-use_expr.ensures) c.from_residual.ensures.1

pub walk_arms-returns-in_err-if_some : goal.walk_arms-returns-in_err-if_some
walk_arms-returns-in_err-if_some g t c =
    each_exit g.W.World.means g.I.Inner.tells (λ s. walk_arms s (doing s)) (λ s x i. use_expr s (doing s) Move x.body i ++ cond (eqb x.guard 0) [] (use_expr s (doing s) Move x.guard i)) (λ s i. refl) (λ s x xs i. sym (append_assoc (use_expr s (doing s) Move x.body i) _ _)) (triples (numbers c.args.arms.bytes.now)) c.args.recorder.now c.loop-arm.recorder c.if_some.new.recorder c.args.mark.now c.loop-arm.mark c.if_some.new.mark c.in-Some.ensures.steps c.loop-arm.invariant.0 (does_seq g.W.World.means g.I.Inner.tells (λ s. use_expr s (doing s) Move c.in-Some.arm.body) (λ s i. cond (eqb c.in-Some.arm.guard 0) [] (use_expr s (doing s) Move c.in-Some.arm.guard i)) c.loop-arm.recorder c.use_expr.new.recorder c.loop-arm.mark c.use_expr.new.mark c.if_some.new.recorder c.if_some.new.mark (c.in_ok-use_expr.ensures) (c.in_err-if_some.ensures)) c.from_residual-in_err-if_some.ensures.1

pub walk_arms-loop-arm-preserved : goal.walk_arms-loop-arm-preserved
walk_arms-loop-arm-preserved g t c =
    (each_step g.W.World.means g.I.Inner.tells (λ s. walk_arms s (doing s)) (λ s x i. use_expr s (doing s) Move x.body i ++ cond (eqb x.guard 0) [] (use_expr s (doing s) Move x.guard i)) (λ s i. refl) (λ s x xs i. sym (append_assoc (use_expr s (doing s) Move x.body i) _ _)) (triples (numbers c.args.arms.bytes.now)) c.args.recorder.now c.loop-arm.recorder c.if_some.new.recorder c.args.mark.now c.loop-arm.mark c.if_some.new.mark c.in-Some.ensures.steps c.loop-arm.invariant.0 (does_seq g.W.World.means g.I.Inner.tells (λ s. use_expr s (doing s) Move c.in-Some.arm.body) (λ s i. cond (eqb c.in-Some.arm.guard 0) [] (use_expr s (doing s) Move c.in-Some.arm.guard i)) c.loop-arm.recorder c.use_expr.new.recorder c.loop-arm.mark c.use_expr.new.mark c.if_some.new.recorder c.if_some.new.mark (c.in_ok-use_expr.ensures) (c.in_ok-if_some.ensures)), (rw c.in-Some.ensures.steps at c.loop-arm.invariant.1).1)

pub walk_arms-returns : goal.walk_arms-returns
walk_arms-returns g t c =
    each_end g.W.World.means g.I.Inner.tells (λ s. walk_arms s (doing s)) (λ s x i. use_expr s (doing s) Move x.body i ++ cond (eqb x.guard 0) [] (use_expr s (doing s) Move x.guard i)) (λ s i. refl) (λ s x xs i. sym (append_assoc (use_expr s (doing s) Move x.body i) _ _)) (triples (numbers c.args.arms.bytes.now)) c.args.recorder.now c.loop-arm.recorder c.args.mark.now c.loop-arm.mark c.in-None.ensures.steps.0 c.loop-arm.invariant.0

pub walk_form-returns-in_err-use_expr-in-OpAssign : goal.walk_form-returns-in_err-use_expr-in-OpAssign
walk_form-returns-in_err-use_expr-in-OpAssign g t c =
    let s = setting g.W.World.means g.I.Inner.tells c.args.recorder.now.scene.now in
    let first : Setting → Marked = λ s. use_expr s (doing s) Mut c.in-OpAssign.target in
    let more : Setting → Marked = λ s. use_expr s (doing s) Move c.in-OpAssign.value in
    does_as g.W.World.means g.I.Inner.tells (λ s i. first s i ++ more s i) (λ s. walk_form s (doing s) c.args.n (view_expr c.args.expr)) c.args.recorder.now c.use_expr-in-OpAssign.new.recorder c.args.mark.now c.use_expr-in-OpAssign.new.mark (ap (λ (x : Expr). walk_form s (doing s) c.args.n (view_expr x) c.args.mark.now.inside) (sym c.in-OpAssign.is))
    (does_exit g.W.World.means g.I.Inner.tells first more c.args.recorder.now c.use_expr-in-OpAssign.new.recorder c.args.mark.now c.use_expr-in-OpAssign.new.mark (c.in_err-use_expr-in-OpAssign.ensures) c.from_residual.ensures.1)

pub walk_form-returns-in_ok-use_expr-in-OpAssign : goal.walk_form-returns-in_ok-use_expr-in-OpAssign
walk_form-returns-in_ok-use_expr-in-OpAssign g t c =
    let s = setting g.W.World.means g.I.Inner.tells c.args.recorder.now.scene.now in
    let first : Setting → Marked = λ s. use_expr s (doing s) Mut c.in-OpAssign.target in
    let more : Setting → Marked = λ s. use_expr s (doing s) Move c.in-OpAssign.value in
    does_as g.W.World.means g.I.Inner.tells (λ s i. first s i ++ more s i) (λ s. walk_form s (doing s) c.args.n (view_expr c.args.expr)) c.args.recorder.now c.use_expr-in-OpAssign-2.new.recorder c.args.mark.now c.use_expr-in-OpAssign-2.new.mark (ap (λ (x : Expr). walk_form s (doing s) c.args.n (view_expr x) c.args.mark.now.inside) (sym c.in-OpAssign.is))
    (does_seq g.W.World.means g.I.Inner.tells first more c.args.recorder.now c.use_expr-in-OpAssign.new.recorder c.args.mark.now c.use_expr-in-OpAssign.new.mark c.use_expr-in-OpAssign-2.new.recorder c.use_expr-in-OpAssign-2.new.mark (c.in_ok-use_expr-in-OpAssign.ensures) (c.use_expr-in-OpAssign-2.ensures))

pub walk_form-returns-in_err-walk_expr-in-Assign : goal.walk_form-returns-in_err-walk_expr-in-Assign
walk_form-returns-in_err-walk_expr-in-Assign g t c =
    let s = setting g.W.World.means g.I.Inner.tells c.args.recorder.now.scene.now in
    let first : Setting → Marked = λ s. (doing s c.in-Assign.value).walked in
    let more : Setting → Marked = λ s. assign_from s (doing s) (place s c.in-Assign.value) c.in-Assign.target in
    does_as g.W.World.means g.I.Inner.tells (λ s i. first s i ++ more s i) (λ s. walk_form s (doing s) c.args.n (view_expr c.args.expr)) c.args.recorder.now c.walk_expr-in-Assign.new.recorder c.args.mark.now c.walk_expr-in-Assign.new.mark (ap (λ (x : Expr). walk_form s (doing s) c.args.n (view_expr x) c.args.mark.now.inside) (sym c.in-Assign.is))
    (does_exit g.W.World.means g.I.Inner.tells first more c.args.recorder.now c.walk_expr-in-Assign.new.recorder c.args.mark.now c.walk_expr-in-Assign.new.mark (c.in_err-walk_expr-in-Assign.ensures) c.from_residual-in_err-walk_expr-in-Assign.ensures.1)

pub walk_form-returns-in_ok-walk_expr-in-Assign : goal.walk_form-returns-in_ok-walk_expr-in-Assign
walk_form-returns-in_ok-walk_expr-in-Assign g t c =
    let s = setting g.W.World.means g.I.Inner.tells c.args.recorder.now.scene.now in
    let first : Setting → Marked = λ s. (doing s c.in-Assign.value).walked in
    let more : Setting → Marked = λ s. assign_from s (doing s) (place s c.in-Assign.value) c.in-Assign.target in
    does_as g.W.World.means g.I.Inner.tells (λ s i. first s i ++ more s i) (λ s. walk_form s (doing s) c.args.n (view_expr c.args.expr)) c.args.recorder.now c.assign.new.recorder c.args.mark.now c.assign.new.mark (ap (λ (x : Expr). walk_form s (doing s) c.args.n (view_expr x) c.args.mark.now.inside) (sym c.in-Assign.is))
    (does_seq g.W.World.means g.I.Inner.tells first more c.args.recorder.now c.walk_expr-in-Assign.new.recorder c.args.mark.now c.walk_expr-in-Assign.new.mark c.assign.new.recorder c.assign.new.mark (c.in_ok-walk_expr-in-Assign.ensures) (c.assign.ensures))

pub walk_form-returns-in_err-walk_expr-in-Let : goal.walk_form-returns-in_err-walk_expr-in-Let
walk_form-returns-in_err-walk_expr-in-Let g t c =
    let s = setting g.W.World.means g.I.Inner.tells c.args.recorder.now.scene.now in
    let first : Setting → Marked = λ s. (doing s c.in-Let.value).walked in
    let more : Setting → Marked = λ s. bind_place s (doing s) c.in-Let.pat c.in-Let.value in
    does_as g.W.World.means g.I.Inner.tells (λ s i. first s i ++ more s i) (λ s. walk_form s (doing s) c.args.n (view_expr c.args.expr)) c.args.recorder.now c.walk_expr-in-Let.new.recorder c.args.mark.now c.walk_expr-in-Let.new.mark (ap (λ (x : Expr). walk_form s (doing s) c.args.n (view_expr x) c.args.mark.now.inside) (sym c.in-Let.is))
    (does_exit g.W.World.means g.I.Inner.tells first more c.args.recorder.now c.walk_expr-in-Let.new.recorder c.args.mark.now c.walk_expr-in-Let.new.mark (c.in_err-walk_expr-in-Let.ensures) c.from_residual-in_err-walk_expr-in-Let.ensures.1)

pub walk_form-returns-in_ok-walk_expr-in-Let : goal.walk_form-returns-in_ok-walk_expr-in-Let
walk_form-returns-in_ok-walk_expr-in-Let g t c =
    let s = setting g.W.World.means g.I.Inner.tells c.args.recorder.now.scene.now in
    let first : Setting → Marked = λ s. (doing s c.in-Let.value).walked in
    let more : Setting → Marked = λ s. bind_place s (doing s) c.in-Let.pat c.in-Let.value in
    does_as g.W.World.means g.I.Inner.tells (λ s i. first s i ++ more s i) (λ s. walk_form s (doing s) c.args.n (view_expr c.args.expr)) c.args.recorder.now c.bind.new.recorder c.args.mark.now c.bind.new.mark (ap (λ (x : Expr). walk_form s (doing s) c.args.n (view_expr x) c.args.mark.now.inside) (sym c.in-Let.is))
    (does_seq g.W.World.means g.I.Inner.tells first more c.args.recorder.now c.walk_expr-in-Let.new.recorder c.args.mark.now c.walk_expr-in-Let.new.mark c.bind.new.recorder c.bind.new.mark (c.in_ok-walk_expr-in-Let.ensures) (c.bind.ensures))

pub walk_form-returns-in_err-walk_expr-in-Index : goal.walk_form-returns-in_err-walk_expr-in-Index
walk_form-returns-in_err-walk_expr-in-Index g t c =
    let s = setting g.W.World.means g.I.Inner.tells c.args.recorder.now.scene.now in
    let first : Setting → Marked = λ s. (doing s c.in-Index.base).walked in
    let more : Setting → Marked = λ s. use_expr s (doing s) Move c.in-Index.index in
    does_as g.W.World.means g.I.Inner.tells (λ s i. first s i ++ more s i) (λ s. walk_form s (doing s) c.args.n (view_expr c.args.expr)) c.args.recorder.now c.walk_expr-in-Index.new.recorder c.args.mark.now c.walk_expr-in-Index.new.mark (ap (λ (x : Expr). walk_form s (doing s) c.args.n (view_expr x) c.args.mark.now.inside) (sym c.in-Index.is))
    (does_exit g.W.World.means g.I.Inner.tells first more c.args.recorder.now c.walk_expr-in-Index.new.recorder c.args.mark.now c.walk_expr-in-Index.new.mark (c.in_err-walk_expr-in-Index.ensures) c.from_residual-in_err-walk_expr-in-Index.ensures.1)

pub walk_form-returns-in_ok-walk_expr-in-Index : goal.walk_form-returns-in_ok-walk_expr-in-Index
walk_form-returns-in_ok-walk_expr-in-Index g t c =
    let s = setting g.W.World.means g.I.Inner.tells c.args.recorder.now.scene.now in
    let first : Setting → Marked = λ s. (doing s c.in-Index.base).walked in
    let more : Setting → Marked = λ s. use_expr s (doing s) Move c.in-Index.index in
    does_as g.W.World.means g.I.Inner.tells (λ s i. first s i ++ more s i) (λ s. walk_form s (doing s) c.args.n (view_expr c.args.expr)) c.args.recorder.now c.use_expr-in-Index.new.recorder c.args.mark.now c.use_expr-in-Index.new.mark (ap (λ (x : Expr). walk_form s (doing s) c.args.n (view_expr x) c.args.mark.now.inside) (sym c.in-Index.is))
    (does_seq g.W.World.means g.I.Inner.tells first more c.args.recorder.now c.walk_expr-in-Index.new.recorder c.args.mark.now c.walk_expr-in-Index.new.mark c.use_expr-in-Index.new.recorder c.use_expr-in-Index.new.mark (c.in_ok-walk_expr-in-Index.ensures) (c.use_expr-in-Index.ensures))

pub walk_let-returns-in_err-if_some : goal.walk_let-returns-in_err-if_some
walk_let-returns-in_err-if_some g t c =
    let other : Setting → Marked = λ s i. cond (eqb c.args.other 0) [] (use_expr s (doing s) Move c.args.other i) in
    let rest : Setting → Marked = λ s i. cond (eqb c.args.value 0) [] (let_value s (doing s) c.args.value c.args.other i ++ bind_place s (doing s) c.args.pat c.args.value i) in
    does_exit g.W.World.means g.I.Inner.tells other rest c.args.recorder.now c.if_some.new.recorder c.args.mark.now c.if_some.new.mark (c.in_err-if_some.ensures) c.from_residual.ensures.1

pub walk_let-returns-in_err-let_value : goal.walk_let-returns-in_err-let_value
walk_let-returns-in_err-let_value g t c =
    let other : Setting → Marked = λ s i. cond (eqb c.args.other 0) [] (use_expr s (doing s) Move c.args.other i) in
    let rest : Setting → Marked = λ s i. cond (eqb c.args.value 0) [] (let_value s (doing s) c.args.value c.args.other i ++ bind_place s (doing s) c.args.pat c.args.value i) in
    let value : Setting → Marked = λ s. let_value s (doing s) c.args.value c.args.other in
    let bound : Setting → Marked = λ s. bind_place s (doing s) c.args.pat c.args.value in
    does_seq g.W.World.means g.I.Inner.tells other rest c.args.recorder.now c.if_some.new.recorder c.args.mark.now c.if_some.new.mark c.let_value.new.recorder c.let_value.new.mark (c.in_ok-if_some.ensures) (does_as g.W.World.means g.I.Inner.tells (λ s i. value s i ++ bound s i) rest c.if_some.new.recorder c.let_value.new.recorder c.if_some.new.mark c.let_value.new.mark (sym (cond-false (eqb c.args.value 0) [] _ (ne_eqb c.args.value 0 c.if-value-eq0.false))) (does_exit g.W.World.means g.I.Inner.tells value bound c.if_some.new.recorder c.let_value.new.recorder c.if_some.new.mark c.let_value.new.mark (c.in_err-let_value.ensures) c.from_residual-in_err-let_value.ensures.1))

pub walk_let-returns : goal.walk_let-returns
walk_let-returns g t c =
    let other : Setting → Marked = λ s i. cond (eqb c.args.other 0) [] (use_expr s (doing s) Move c.args.other i) in
    let rest : Setting → Marked = λ s i. cond (eqb c.args.value 0) [] (let_value s (doing s) c.args.value c.args.other i ++ bind_place s (doing s) c.args.pat c.args.value i) in
    let value : Setting → Marked = λ s. let_value s (doing s) c.args.value c.args.other in
    let bound : Setting → Marked = λ s. bind_place s (doing s) c.args.pat c.args.value in
    does_seq g.W.World.means g.I.Inner.tells other rest c.args.recorder.now c.if_some.new.recorder c.args.mark.now c.if_some.new.mark c.bind.new.recorder c.bind.new.mark (c.in_ok-if_some.ensures) (does_as g.W.World.means g.I.Inner.tells (λ s i. value s i ++ bound s i) rest c.if_some.new.recorder c.bind.new.recorder c.if_some.new.mark c.bind.new.mark (sym (cond-false (eqb c.args.value 0) [] _ (ne_eqb c.args.value 0 c.if-value-eq0.false))) (does_seq g.W.World.means g.I.Inner.tells value bound c.if_some.new.recorder c.let_value.new.recorder c.if_some.new.mark c.let_value.new.mark c.bind.new.recorder c.bind.new.mark (c.in_ok-let_value.ensures) (c.bind.ensures)))

pub walk_match-returns-in_err-walk_arms : goal.walk_match-returns-in_err-walk_arms
walk_match-returns-in_err-walk_arms g t c =
    let arms : Setting → Marked = λ s. walk_arms s (doing s) (triples (numbers c.args.arms.bytes.now)) in
    let walked : Setting → Marked = λ s. (doing s c.args.scrutinee).walked in
    let asked : Setting → Marked = λ s i. with_place (place s c.args.scrutinee) (match_place s c.args.scrutinee (triples (numbers c.args.arms.bytes.now))) in
    let behind : Setting → Marked = λ s i. walked s i ++ asked s i in
    does_exit g.W.World.means g.I.Inner.tells arms behind c.args.recorder.now c.walk_arms.new.recorder c.args.mark.now c.walk_arms.new.mark (c.in_err-walk_arms.ensures) c.from_residual.ensures.1

pub walk_match-returns-in_err-walk_expr : goal.walk_match-returns-in_err-walk_expr
walk_match-returns-in_err-walk_expr g t c =
    let arms : Setting → Marked = λ s. walk_arms s (doing s) (triples (numbers c.args.arms.bytes.now)) in
    let walked : Setting → Marked = λ s. (doing s c.args.scrutinee).walked in
    let asked : Setting → Marked = λ s i. with_place (place s c.args.scrutinee) (match_place s c.args.scrutinee (triples (numbers c.args.arms.bytes.now))) in
    let behind : Setting → Marked = λ s i. walked s i ++ asked s i in
    does_seq g.W.World.means g.I.Inner.tells arms behind c.args.recorder.now c.walk_arms.new.recorder c.args.mark.now c.walk_arms.new.mark c.walk_expr.new.recorder c.walk_expr.new.mark (c.in_ok-walk_arms.ensures) (does_exit g.W.World.means g.I.Inner.tells walked asked c.walk_arms.new.recorder c.walk_expr.new.recorder c.walk_arms.new.mark c.walk_expr.new.mark (c.in_err-walk_expr.ensures) c.from_residual-in_err-walk_expr.ensures.1)

pub walk_match-returns : goal.walk_match-returns
walk_match-returns g t c =
    let arms : Setting → Marked = λ s. walk_arms s (doing s) (triples (numbers c.args.arms.bytes.now)) in
    let walked : Setting → Marked = λ s. (doing s c.args.scrutinee).walked in
    let asked : Setting → Marked = λ s i. with_place (place s c.args.scrutinee) (match_place s c.args.scrutinee (triples (numbers c.args.arms.bytes.now))) in
    let behind : Setting → Marked = λ s i. walked s i ++ asked s i in
    does_seq g.W.World.means g.I.Inner.tells arms behind c.args.recorder.now c.walk_arms.new.recorder c.args.mark.now c.walk_arms.new.mark c.capture_match.new.self c.walk_expr.new.mark (c.in_ok-walk_arms.ensures) (does_seq g.W.World.means g.I.Inner.tells walked asked c.walk_arms.new.recorder c.walk_expr.new.recorder c.walk_arms.new.mark c.walk_expr.new.mark c.capture_match.new.self c.walk_expr.new.mark (c.in_ok-walk_expr.ensures) (refl, c.capture_match.ensures))
