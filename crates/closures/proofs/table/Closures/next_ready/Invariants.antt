use Rattle.std.proofs.Common.{◌≡◌, None}
use Rattle.closures.specs.Ledger.{is_ready, lowest}
use Rattle.closures.specs.Views.{ledger}
use Rattle.closures.proofs.table.Closures.next_ready.Given as goal

abbrev pub invariant-loop-i : goal.invariant-loop-i
invariant-loop-i l = lowest (is_ready l.self.count (ledger l.self)) l.i ≡ None
