-- The refusals of a reader, by number: 1 past the end, 2 an unknown tag or class or a tag that falls back, 3 a length or a
-- byte that misfits, 4 one too many. The place is the offset of the record.
use Rattle.std.specs.Prelude.{ℕ}
use Rattle.reader.specs.declared.faults.ReaderFault.{ReaderFault}
use Rattle.reader.specs.declared.faults.ReaderFault.TheVariants.{PastEnd, Unknown, Misfit, TooMany}

abbrev pub number : ReaderFault → ℕ
number (PastEnd o) = 1
number (Unknown o) = 2
number (Misfit o) = 3
number (TooMany o) = 4

abbrev pub place : ReaderFault → ℕ
place (PastEnd o) = o
place (Unknown o) = o
place (Misfit o) = o
place (TooMany o) = o
