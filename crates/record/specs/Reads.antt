-- What an analysis left in the capture table.
use Rattle.std.specs.Prelude.{List, map, take, drop}
use Rattle.scale.specs.declared.modes.Mode.{Mode}
use Rattle.place.specs.declared.uses.Capture.{Capture}
use Rattle.cover.specs.Views.{captured}
use Rattle.closures.specs.declared.states.Analysis.{Analysis}
use Rattle.record.specs.History.{Kept}

abbrev pub read : List (Capture Mode) → Analysis → Kept
read table a = record { kind = a.kind; captures = map captured (take a.count (drop a.from table)); copies = a.copies }
