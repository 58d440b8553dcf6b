use Rattle.std.proofs.Common.{◌≡◌}
use Rattle.reader.specs.Operands.{spelled, view_left}
use Rattle.indexing.specs.Checks.{claims}
use Rattle.indexing.proofs.check.claim.Given as goal

abbrev pub invariant-loop-operand : goal.invariant-loop-operand
invariant-loop-operand l = claims l.marks (spelled (view_left l.operand-iterator)) ≡ claims l.initial.marks (spelled (view_left l.fn.operands))
