use Rattle.std.proofs.Common.{◌≡◌, ◌-◌}
use Rattle.reader.specs.Payloads.{adjustments_fit}
use Rattle.reader.proofs.payload.adjustments_fit.Given as goal

abbrev pub invariant-loop-done : goal.invariant-loop-done
invariant-loop-done l = adjustments_fit (l.count - l._done) l.rest ≡ adjustments_fit l.count l.bytes
