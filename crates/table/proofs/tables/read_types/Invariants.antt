use Rattle.std.proofs.Common.{length}
use Rattle.reader.specs.Reading.{state}
use Rattle.table.proofs.Sofar.{Sofar}
use Rattle.table.proofs.tables.read_types.Given as goal

abbrev pub invariant-loop-found : goal.invariant-loop-found
invariant-loop-found l = Sofar l.file (length l.initial.offsets) (state l.reader) l.offsets l.count

abbrev pub decreases-loop-found : goal.decreases-loop-found
decreases-loop-found l = length l.reader.rest.now
