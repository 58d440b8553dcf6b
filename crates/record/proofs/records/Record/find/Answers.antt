use Rattle.std.proofs.Common.{rules}
use Rattle.record.proofs.Analysing.{found_by}
use Rattle.record.proofs.records.Record.find.Goals as goal

pub returns : goal.returns
returns g c = found_by _ _ _ _ c.analyse-found.result c.map_err.result _ c.analyse-found.ensures c.map_err.ensures.cases (λ e f q. search rules)
