-- The refusals of open, by number, layer and place: the reader's 1 to 4 carried whole, and the body's own 5 to 8. The place
-- is the offset of the earliest record in fault.
use Rattle.std.specs.Prelude.{ℕ, List, ◌++◌, codes}
use Rattle.std.specs.Fmt.{decimal}
use Rattle.reader.specs.Faults as of_reader
use Rattle.indexing.specs.declared.faults.BodyFault.{BodyFault}
use Rattle.indexing.specs.declared.faults.BodyFault.TheVariants as fault
use Rattle.indexing.specs.declared.faults.Layer.{Layer}
use Rattle.indexing.specs.declared.faults.Layer.TheVariants.{Reader, Body, Record}

abbrev pub number : BodyFault → ℕ
number (fault.Reader e) = of_reader.number e
number (fault.Operand o) = 5
number (fault.Parent o) = 6
number (fault.Nesting o) = 7
number (fault.Home o) = 8

abbrev pub layer : BodyFault → Layer
layer (fault.Reader e) = Reader
layer (fault.Operand o) = Body
layer (fault.Parent o) = Body
layer (fault.Nesting o) = Body
layer (fault.Home o) = Body

abbrev pub place : BodyFault → ℕ
place (fault.Reader e) = of_reader.place e
place (fault.Operand o) = o
place (fault.Parent o) = o
place (fault.Nesting o) = o
place (fault.Home o) = o

-- the name of a layer
abbrev pub layer_text : Layer → List ℕ
layer_text Reader = codes "reader"
layer_text Body = codes "body"
layer_text Record = codes "record"

-- the number, the layer and the place, with spaces between them
abbrev pub fault_text : BodyFault → List ℕ
fault_text e = decimal (number e) ++ codes " " ++ layer_text (layer e) ++ codes " " ++ decimal (place e)
