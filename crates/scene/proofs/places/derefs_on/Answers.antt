use Rattle.std.proofs.Common.{◌∙◌, arith}
use Rattle.scene.proofs.Placing.{derefs_turn}
use Rattle.scene.proofs.places.derefs_on.Goals as goal

pub loop-preserved : goal.loop-preserved
loop-preserved c = derefs_turn c.args.count c.loop.counter _ _ (omega arith) c.in_ok-at.ensures ∙ c.loop.invariant
