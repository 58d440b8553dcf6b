-- The refusals of a walk, by number.
use Rattle.std.specs.Prelude.{ℕ}
use Rattle.scene.specs.declared.faults.WalkFault.{WalkFault}
use Rattle.scene.specs.declared.faults.WalkFault.TheVariants.{PathTooLong, NoRow, NotAnalysed}

abbrev pub number_of : WalkFault → ℕ
number_of PathTooLong = 15
number_of NoRow = 16
number_of NotAnalysed = 17
