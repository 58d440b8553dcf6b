use Rattle.std.proofs.Common.{◌≡◌, None}
use Rattle.closures.specs.Ledger.{left_of, lowest}
use Rattle.closures.specs.Views.{ledger}
use Rattle.closures.proofs.table.Closures.first_left.Given as goal

abbrev pub invariant-loop-j : goal.invariant-loop-j
invariant-loop-j l = lowest (left_of (ledger l.self) l.c) l.j ≡ None
