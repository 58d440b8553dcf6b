-- The refusals of the record, case by case: number, layer and place.
use Rattle.std.specs.Prelude.{ℕ}
use Rattle.indexing.specs.declared.faults.Layer.{Layer}
use Rattle.indexing.specs.declared.faults.Layer.TheVariants as layers
use Rattle.indexing.specs.Faults as body
use Rattle.closures.specs.Faults as closure
use Rattle.scene.specs.Faults as walk
use Rattle.record.specs.declared.faults.RecordFault.{RecordFault}
use Rattle.record.specs.declared.faults.RecordFault.TheVariants.{Body, Closure, Walk, Full, Short}

abbrev pub number : RecordFault → ℕ
number (Body f) = body.number f
number (Closure f) = closure.number f
number (Walk c f) = walk.number_of f
number (Full c) = 18
number Short = 20

abbrev pub layer : RecordFault → Layer
layer (Body f) = body.layer f
layer (Closure f) = layers.Record
layer (Walk c f) = layers.Record
layer (Full c) = layers.Record
layer Short = layers.Record

-- the offset of a record in fault, or the closure that is meant, 0 where none is
abbrev pub place : RecordFault → ℕ
place (Body f) = body.place f
place (Closure f) = closure.place f
place (Walk c f) = c
place (Full c) = c
place Short = 0
