-- The refusals of requests and questions: their numbers, and the closures that they mean.
use Rattle.std.specs.Prelude.{ℕ}
use Rattle.closures.specs.declared.faults.ClosureFault.{ClosureFault}
use Rattle.closures.specs.declared.faults.ClosureFault.TheVariants.{NoClosure, Analysed, Circle, Waits, NotAnalysed}

abbrev pub number : ClosureFault → ℕ
number (NoClosure c) = 10
number (Analysed c) = 11
number (Circle c) = 12
number (Waits c) = 14
number (NotAnalysed c) = 19

abbrev pub place : ClosureFault → ℕ
place (NoClosure c) = c
place (Analysed c) = c
place (Circle c) = c
place (Waits c) = c
place (NotAnalysed c) = c
