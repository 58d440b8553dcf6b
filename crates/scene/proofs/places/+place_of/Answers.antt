use Rattle.std.proofs.Common.{ap, ◌∙◌, arith, rules}
use Rattle.std.proofs.lemmas.List.{take_all}
use Rattle.node.specs.Lists.{adjustments}
use Rattle.place.specs.Places.{spot}
use Rattle.scene.specs.Places.{apply_adjusts}
use Rattle.scene.proofs.Placing.{reach_exit, place_read}
use Rattle.scene.proofs.Under.{sound_of, expr_read_below}
use Rattle.scene.proofs.places.+place_of.Goals as goal

pub place_of_expr-place_without_adjust-requires : goal.place_of_expr-place_without_adjust-requires
place_of_expr-place_without_adjust-requires g t c κs within =
    let b = expr_read_below _ (sound_of c.args.scene.now.body.now) c.args.n c.expr_at-node.result c.expr_at-node.ensures in search rules

pub place_of_expr-returns-in_err-place : goal.place_of_expr-returns-in_err-place
place_of_expr-returns-in_err-place g t c =
    reach_exit _ c.from_residual.ensures.1
    ∙ place_read _ _ (sound_of c.args.scene.now.body.now) c.args.n c.expr_at-node.result _ c.expr_at-node.ensures c.in_err-place.ensures

pub place_of_expr-returns-in-Some : goal.place_of_expr-returns-in-Some
place_of_expr-returns-in-Some g t c =
    c.apply_adjusts.ensures
    ∙ ap (λ l. apply_adjusts l (spot c.in-Some.place)) (take_all _ (adjustments c.expr_at-node.result.adjustments.bytes.now) (omega (arith, c.len.ensures)))
    ∙ place_read _ _ (sound_of c.args.scene.now.body.now) c.args.n c.expr_at-node.result _ c.expr_at-node.ensures (rw c.in-Some.is at c.in_ok-place.ensures)

pub place_of_expr-returns-in-None : goal.place_of_expr-returns-in-None
place_of_expr-returns-in-None g t c =
    place_read _ _ (sound_of c.args.scene.now.body.now) c.args.n c.expr_at-node.result _ c.expr_at-node.ensures (rw c.in-None.is at c.in_ok-place.ensures)
