use Rattle.std.proofs.Common.{ap, ◌∙◌, arith}
use Rattle.std.proofs.lemmas.List.{at_drop_all}
use Rattle.node.specs.Nodes.{ExprAt}
use Rattle.place.specs.Places.{spot}
use Rattle.scene.specs.Inner.{held}
use Rattle.scene.specs.Scenes.{setting}
use Rattle.events.specs.Captures.{add_capture, inner_captures}
use Rattle.events.proofs.Inners.{inner_turn}
use Rattle.events.proofs.Plays.{ran_as, onward_step, onward_exit, onward_end}
use Rattle.events.proofs.Recordings.{seen_from}
use Rattle.events.proofs.recorder.Recorder.capture_inner.Goals as goal

pub returns-in_err-add_capture : goal.returns-in_err-add_capture
returns-in_err-add_capture g c =
    let s = setting g.W.World.means g.I.Inner.tells c.args.self.now.scene.now in
    let k = c.capture-capture.result in
    let x = seen_from g.W.World.means g.I.Inner.tells (λ s. add_capture s (spot k.place) k.mode.value c.args.n) c.args.self.now _ _ c.loop-at.invariant.0 c.in_err-add_capture.ensures in
    ran_as (ap (λ (x : ExprAt). inner_captures s c.args.n (s.told.captured x.home)) c.expr_at-closure.ensures)
    (onward_exit _ c.loop-at.invariant.1 (inner_turn s c.args.n _ c.loop-at.at (held k) (omega (arith, c.count-at-end.ensures)) c.capture-capture.ensures) x c.from_residual.ensures.1)

pub loop-at-preserved : goal.loop-at-preserved
loop-at-preserved g c =
    let s = setting g.W.World.means g.I.Inner.tells c.args.self.now.scene.now in
    let k = c.capture-capture.result in
    let x = seen_from g.W.World.means g.I.Inner.tells (λ s. add_capture s (spot k.place) k.mode.value c.args.n) c.args.self.now _ _ c.loop-at.invariant.0 c.in_ok-add_capture.ensures in
    (x.scene ∙ c.loop-at.invariant.0, onward_step _ c.loop-at.invariant.1 (inner_turn s c.args.n _ c.loop-at.at (held k) (omega (arith, c.count-at-end.ensures)) c.capture-capture.ensures) x)

pub returns : goal.returns
returns g c =
    let s = setting g.W.World.means g.I.Inner.tells c.args.self.now.scene.now in
    ran_as (ap (λ (x : ExprAt). inner_captures s c.args.n (s.told.captured x.home)) c.expr_at-closure.ensures)
    (onward_end c.loop-at.invariant.1 (at_drop_all (inner_captures s c.args.n) (s.told.captured c.expr_at-closure.result.home) c.loop-at.at (omega (arith, c.count-at-end.ensures))))
