use Rattle.std.proofs.Common.{sym, ◌∙◌}
use Rattle.closures.specs.Ledger.{left_of}
use Rattle.closures.specs.Views.{ledger}
use Rattle.closures.proofs.Lowest.{lowest_found}
use Rattle.closures.proofs.table.Closures.first_left.Goals as goal

pub returns-then-is_left : goal.returns-then-is_left
returns-then-is_left c = sym (lowest_found (left_of (ledger c.args.self.now) c.args.c) _ _ c.loop-j.invariant (sym c.is_left.ensures ∙ c.if-is_left.true) c.loop-j-test.true)
