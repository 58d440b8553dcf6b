use Rattle.std.proofs.Common.{length}
use Rattle.reader.specs.Reading.{state}
use Rattle.indexing.proofs.Sofar.{Sofar}
use Rattle.indexing.proofs.index.index.Given as goal

abbrev pub invariant-loop-found : goal.invariant-loop-found
invariant-loop-found l = Sofar l.file l.initial.rows (state l.reader) l.rows l.count l.marks l.closures

abbrev pub decreases-loop-found : goal.decreases-loop-found
decreases-loop-found l = length l.reader.rest.now
