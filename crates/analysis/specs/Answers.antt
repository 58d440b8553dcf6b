-- What an answer of the analysis tells, beside the table that holds the narrowed uses.
use Rattle.std.specs.Prelude.{◌≡◌, ◌≤◌, List, map, length, take, IfOk, Some, None, Ok, Err, Option, Result, MatchResult}
use Rattle.scale.specs.declared.modes.Kind.{Kind}
use Rattle.scale.specs.declared.modes.Mode.{Mode}
use Rattle.place.specs.declared.uses.Use.{Use}
use Rattle.narrow.specs.Narrowing.{Used}
use Rattle.narrow.specs.Views.{view}
use Rattle.scene.specs.declared.faults.WalkFault.{WalkFault}
use Rattle.scene.specs.declared.faults.WalkFault.TheVariants.{NotAnalysed}
use Rattle.scene.specs.Scenes.{Setting}
use Rattle.analysis.specs.declared.findings.Findings.{Findings}
use Rattle.analysis.specs.Findings.{Finding, captures_in, finding}

-- the uses at the front of the table
abbrev pub front : List (Use Mode) → Findings → List Used
front table a = map view (take a.uses table)

-- what an answer shows beside the table
abbrev pub shown : {E : Type 0} → Setting → List (Use Mode) → Result Findings E → Result Finding E
shown s table (Err f) = Err f
shown s table (Ok a) = Ok (record { uses = front table a; kind = a.kind; captures = captures_in s (front table a); copies = a.copies })

-- an answer, with the table that it leaves, tells this finding
pub record Answered (s : Setting) (found : Result Finding WalkFault) (table : List (Use Mode)) (r : Result Findings WalkFault) : Type 0 where
  pub fits : IfOk r (λ a. a.uses ≤ length table)
  pub finds : found ≡ shown s table r

-- the table keeps its length, and the answer tells what is found with a table of so many rows
pub record Analysed (s : Setting) (preset : Option Kind) (before after : List (Use Mode)) (r : Result Findings WalkFault) : Type 0 where
  pub same : length after ≡ length before
  pub answers : Answered s (finding s preset (length before)) after r

-- each use of a table was put in place of the one that it comes from, or one came to none
abbrev pub Replaced : Option (List Used) → List (Use Mode) → Result (Unit {0}) WalkFault → Type 0
Replaced us after r = MatchResult r (λ _. us ≡ Some (map view after)) (λ f. (us ≡ None) × (f ≡ NotAnalysed))
