use Rattle.record.specs.Views.{view}
use Rattle.record.proofs.Turning.{some_history}
use Rattle.record.proofs.records.Record.history_stands.Goals as goal

pub returns : goal.returns
returns g c = some_history (view c.args.self.now)
