use Rattle.std.proofs.Common.{sym, ◌∙◌}
use Rattle.closures.specs.Ledger.{is_ready}
use Rattle.closures.specs.Views.{ledger}
use Rattle.closures.proofs.Lowest.{lowest_found, lowest_all}
use Rattle.closures.proofs.Resting.{all_analysed}
use Rattle.closures.proofs.table.Closures.next_ready.Goals as goal

pub returns-then-is_ready-clause-is : goal.returns-then-is_ready-clause-is
returns-then-is_ready-clause-is c = let t = c.args.self.now in sym (lowest_found (is_ready t.count (ledger t)) _ _ c.loop-i.invariant (sym c.is_ready.ensures ∙ c.if-is_ready.true) c.loop-i-test.true)

pub returns-clause-all : goal.returns-clause-all
returns-clause-all c = let t = c.args.self.now in λ _. all_analysed t.count (ledger t) t.waits.acyclic (lowest_all (is_ready t.count (ledger t)) _ _ c.loop-i.invariant c.loop-i-test.false)
