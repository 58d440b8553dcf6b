use Rattle.std.proofs.Common.{◌∙◌}
use Rattle.scene.proofs.Placing.{reach_exit, adjust_on, adjust_away, adjust_end}
use Rattle.scene.proofs.places.apply_adjusts.Goals as goal

pub returns-in_err-at-in-BuiltinDeref : goal.returns-in_err-at-in-BuiltinDeref
returns-in_err-at-in-BuiltinDeref c =
    reach_exit _ c.from_residual.ensures.1 ∙ adjust_on _ _ _ c.in-Some.ensures.steps c.in-BuiltinDeref.is c.in_err-at-in-BuiltinDeref.ensures ∙ c.loop-adjust.invariant

pub loop-adjust-preserved : goal.loop-adjust-preserved
loop-adjust-preserved c = adjust_on _ _ _ c.in-Some.ensures.steps c.in-BuiltinDeref.is c.in_ok-at-in-BuiltinDeref.ensures ∙ c.loop-adjust.invariant

pub returns-in_default : goal.returns-in_default
returns-in_default c = adjust_away _ _ _ c.in-Some.ensures.steps c.in_default.not-BuiltinDeref ∙ c.loop-adjust.invariant

pub returns : goal.returns
returns c = adjust_end _ _ _ _ c.in-None.ensures.steps ∙ c.loop-adjust.invariant
