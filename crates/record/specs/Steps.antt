-- What the steps of a call leave of the record and its tables.
use Rattle.std.specs.Prelude.{◌≡◌, ℕ, ◌-◌, ◌≤◌, cond, List, length, take, drop, IfOk, Ok, Err, Option, Result, OnErr, nat_le}
use Rattle.scale.specs.declared.modes.Kind.{Kind}
use Rattle.scale.specs.declared.modes.Mode.{Mode}
use Rattle.place.specs.declared.uses.Capture.{Capture}
use Rattle.place.specs.declared.uses.Use.{Use}
use Rattle.place.specs.Places.{Spot}
use Rattle.cover.specs.Cover.{Captured}
use Rattle.cover.specs.Tables.{Written}
use Rattle.scene.specs.Scenes.{Setting}
use Rattle.world.specs.Meaning.{Meaning}
use Rattle.analysis.specs.declared.findings.Findings.{Findings}
use Rattle.analysis.specs.Answers.{shown}
use Rattle.analysis.specs.Findings.{Finding, finding}
use Rattle.closures.specs.declared.faults.ClosureFault.{ClosureFault}
use Rattle.closures.specs.declared.requests.Request.{Request}
use Rattle.closures.specs.Ledger.{analysed, Ledger, with_stage}
use Rattle.closures.specs.Requests.{found_in}
use Rattle.closures.specs.Views.{filled_of}
use Rattle.record.specs.declared.faults.RecordFault.{RecordFault}
use Rattle.record.specs.declared.faults.RecordFault.TheVariants as fault
use Rattle.record.specs.declared.records.Record.{Record}
use Rattle.record.specs.declared.records.Store.{Store}
use Rattle.record.specs.History.{History, Kept, kept, walked, Requested}
use Rattle.record.specs.Views.{Agrees, grounds}

-- the same world, body and capture table, of which the filled rows and those behind the last capture are as they were
pub record Stays {W : Type 0} (a b : Record W) : Type 0 where
  pub world : b.world ≡ a.world
  pub body : b.body ≡ a.body
  pub table : b.table.rows.ghost_name ≡ a.table.rows.ghost_name
  pub rows : length b.table.rows.now ≡ length a.table.rows.now
  pub rises : filled_of a.closures ≤ filled_of b.closures
  pub front : take (filled_of a.closures) b.table.rows.now ≡ take (filled_of a.closures) a.table.rows.now
  pub behind : drop (filled_of b.closures) b.table.rows.now ≡ drop (filled_of b.closures) a.table.rows.now

-- the narrowed uses at the front of the use table, with the answer, tell what the history's analysis finds
pub record Found (s : Setting) (preset : Option Kind) (before after : List (Use Mode)) (r : Result Findings RecordFault) : Type 0 where
  pub fits : IfOk r (λ a. a.uses ≤ length after)
  pub finds : walked s.closure (finding s preset (length before)) ≡ shown s after r

-- captures find rows behind the filled ones, or are refused
abbrev pub room : ℕ → ℕ → ℕ → Result ℕ RecordFault
room needed left c = cond (nat_le needed left) (Ok needed) (Err (fault.Full c))

abbrev pub Leaves : List (Captured Spot Mode) → ℕ → List (Capture Mode) → List (Capture Mode) → Result ℕ RecordFault → Type 0
Leaves cs filled old new (Ok n) = Written cs filled old new
Leaves cs filled old new (Err f) = new ≡ old

-- the captures cs of the closure c are written behind the filled rows, if there is room for them
pub record Laid (cs : List (Captured Spot Mode)) (filled c : ℕ) (a b : Store) (r : Result ℕ RecordFault) : Type 0 where
  pub answers : r ≡ room (length cs) (length a.rows.now - filled) c
  pub leaves : Leaves cs filled a.rows.now b.rows.now r
  pub table : b.rows.ghost_name ≡ a.rows.ghost_name
  pub rows : length b.rows.now ≡ length a.rows.now

-- what was found is kept of the closure; a refusal leaves all as it was
abbrev pub Enters : ℕ → Result Finding RecordFault → Ledger Kept → Ledger Kept → Result (Unit {0}) RecordFault → Type 0
Enters c (Ok f) v w r = (r ≡ Ok tt) × (w ≡ with_stage v c (analysed (kept f)))
Enters c (Err f) v w r = (r ≡ Err f) × (w ≡ v)

-- a refusal leaves the capture table as it was
abbrev pub Unwritten : {W : Type 0} → Record W → Record W → Result (Unit {0}) RecordFault → Type 0
Unwritten a b r = OnErr r ((b.table.rows.now ≡ a.table.rows.now) × (filled_of b.closures ≡ filled_of a.closures))

-- whatever history the record agrees with before, a step S leads to one that it agrees with after
abbrev pub GoesOn : {W : Type 0} → (History → History → Type 0) → Record W → Record W → Type 0
GoesOn S a b = (h : History) → Agrees a h → (m : History) × S h m × Agrees b m

-- what a request makes of the record, with a use table of so many rows: whatever history it agrees with goes on by the request,
-- and of the tables only the rows of new captures are written
pub record Carried {W : Type 0} (means : W → Meaning) (uses : ℕ) (q : Request) (a b : Record W) (r : Result (Unit {0}) RecordFault) : Type 0 where
  pub answers : GoesOn (λ h m. Requested (grounds means a uses) h q r m) a b
  pub stays : Stays a b
  pub unwritten : Unwritten a b r

-- answers as the record gives them
abbrev pub by_record : {A : Type 0} → Result A ClosureFault → Result A RecordFault
by_record (Ok a) = Ok a
by_record (Err f) = Err (fault.Closure f)

abbrev pub answered : {A B E : Type 0} → (A → B) → Result A E → Result B E
answered f (Ok a) = Ok (f a)
answered f (Err e) = Err e

-- what is kept of an analysed closure
abbrev pub kept_of : ℕ → Ledger Kept → ℕ → Result Kept RecordFault
kept_of n l c = by_record (found_in n l c)
