use Rattle.std.proofs.Common.{◌≡◌, length, is_some}
use Rattle.reader.specs.Operands.{all, view_left}
use Rattle.reader.proofs.operands.Operands.fit.Given as goal

abbrev pub invariant-loop : goal.invariant-loop
invariant-loop l = is_some (all (view_left l.self)) ≡ is_some (all (view_left l.fn.self))

abbrev pub decreases-loop : goal.decreases-loop
decreases-loop l = length l.self.bytes.now
