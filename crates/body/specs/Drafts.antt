-- The body that a file opens as.
use Rattle.std.specs.Prelude.{ℕ, List, length, Ok, Err, Result}
use Rattle.indexing.specs.declared.faults.BodyFault.{BodyFault}
use Rattle.indexing.specs.declared.rows.Row.{Row}
use Rattle.indexing.specs.Opening.{Draft, empty, opened}

abbrev pub or_empty : Result Draft BodyFault → Draft
or_empty (Ok d) = d
or_empty (Err e) = empty

-- with the index table that it was opened with
abbrev pub drafted : List Row → List ℕ → Draft
drafted rows file = or_empty (opened (length rows) file)
