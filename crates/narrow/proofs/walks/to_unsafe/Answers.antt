use Rattle.std.proofs.Common.{rules}
use Rattle.narrow.proofs.Walked.{stop_found}
use Rattle.narrow.proofs.walks.to_unsafe.Goals as goal

pub returns-then-is_stop : goal.returns-then-is_stop
returns-then-is_stop g c = search (rules, stop_found)
