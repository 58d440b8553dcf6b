use Rattle.std.proofs.Common.{rules, tests}
use Rattle.narrow_tests.proofs.Numbered.{row_at, row_past}
use Rattle.narrow_tests.proofs.sample.Sample.row.Goals as goal

pub returns-in_err-get : goal.returns-in_err-get
returns-in_err-get c = rw c.from_residual-in_err-get.ensures (row_past c.args.self.now.rows.now c.args.t c.in_ok-index.index (search (rules, tests)) (search (rules, tests)))

pub returns : goal.returns
returns c = search (rules, tests, row_at)
