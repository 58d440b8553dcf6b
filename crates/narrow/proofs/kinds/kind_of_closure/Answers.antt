use Rattle.std.proofs.Common.{rules}
use Rattle.narrow.proofs.Graded.{kind_is, kind_tops}
use Rattle.narrow.proofs.kinds.kind_of_closure.Goals as goal

pub returns : goal.returns
returns c = search (rules, kind_is, kind_tops)
