use Rattle.waits.proofs.Growth.{Grown}
use Rattle.waits.proofs.reach.grow.Given as goal

abbrev pub invariant-loop-i : goal.invariant-loop-i
invariant-loop-i l = Grown l.sets l.seen l.i l.all
