use Rattle.waits.proofs.Tables.{none_by, none_waits}
use Rattle.waits.proofs.table.Waits.new.Goals as goal

pub invariant_of-result : goal.invariant_of-result
invariant_of-result c = record { acyclic = λ a b h r. none_waits 64 _ c.empty.ensures a b h }

pub returns : goal.returns
returns c = λ p a b. none_by 64 _ c.empty.ensures a b p
