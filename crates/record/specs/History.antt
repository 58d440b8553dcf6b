-- The history of a body's closures, and what a call makes of it. It is kept from the body, the meaning of the type world, the
-- calls and the lengths of the tables, and never from the record.
use Rattle.std.specs.Prelude.{◌≡◌, ℕ, ◌-◌, Bool, true, cond, ◌&&◌, ◌⊎◌, List, [], map, length, Some, None, Ok, Err, Option, Result, ◌==◌, nat_le}
use Rattle.scale.specs.declared.modes.Kind.{Kind}
use Rattle.scale.specs.declared.modes.Mode.{Mode}
use Rattle.scale.specs.declared.sited.Sited.{Sited}
use Rattle.world.specs.Meaning.{Meaning}
use Rattle.place.specs.Places.{Spot}
use Rattle.cover.specs.Cover.{Captured}
use Rattle.indexing.specs.Opening.{Draft}
use Rattle.body.specs.Answers.{home_in, binding_in}
use Rattle.scene.specs.declared.faults.WalkFault.{WalkFault}
use Rattle.scene.specs.Inner.{Held, Told}
use Rattle.scene.specs.Scenes.{looked_at}
use Rattle.events.specs.Matches.{type_or}
use Rattle.analysis.specs.Findings.{Finding, finding}
use Rattle.closures.specs.declared.faults.ClosureFault.{ClosureFault}
use Rattle.closures.specs.declared.requests.Request.{Request}
use Rattle.closures.specs.declared.requests.Request.TheVariants.{Depend, Preset, Analyse}
use Rattle.closures.specs.Keeping.{total}
use Rattle.closures.specs.Ledger.{Stage, fresh, preset, analysed, is_analysed, preset_in, Ledger, kept_by, is_closure, next_ready, with_wait, with_stage}
use Rattle.closures.specs.Requests.{Granted, Refused}
use Rattle.record.specs.declared.calls.Call.{Call}
use Rattle.record.specs.declared.calls.Call.TheVariants.{One, InferAll}
use Rattle.record.specs.declared.faults.RecordFault.{RecordFault}
use Rattle.record.specs.declared.faults.RecordFault.TheVariants as fault

-- what a history rests on: the meaning of the world, the body, and the lengths of the use table and of the capture table
pub record Grounds : Type 0 where
  pub means : Meaning
  pub body : Draft
  pub uses : ℕ
  pub rows : ℕ

-- a history has what each analysis found, its narrowed uses too
abbrev pub History : Type 0
History = Ledger Finding

-- the record keeps of a finding the kind, the captures and whether the closure is Copy
pub record Kept : Type 0 where
  pub kind : Sited Kind
  pub captures : List (Captured Spot Mode)
  pub copies : Bool

abbrev pub kept : Finding → Kept
kept f = record { kind = f.kind; captures = f.captures; copies = f.copies }

abbrev pub captures_at : Stage Kept → List (Captured Spot Mode)
captures_at fresh = []
captures_at (preset k) = []
captures_at (analysed f) = f.captures

abbrev pub copies_at : Stage Kept → Option Bool
copies_at fresh = None
copies_at (preset k) = None
copies_at (analysed f) = Some f.copies

abbrev pub held_at : Captured Spot Mode → Held
held_at c = record { place = c.place; mode = c.mode.value }

-- what an analysis is told of the other closures
abbrev pub told : Ledger Kept → Told
told l = record { captured = λ k. map held_at (captures_at (l.stage k)); copied = λ k. copies_at (l.stage k) }

-- how many rows of the capture table the captures of the closures 1 to n fill
abbrev pub filled : ℕ → Ledger Kept → ℕ
filled n l = total (λ c. length (captures_at (l.stage c))) n

-- what the walk and the rules refuse is refused of the closure
abbrev pub walked : ℕ → Result Finding WalkFault → Result Finding RecordFault
walked c (Err f) = Err (fault.Walk c f)
walked c (Ok f) = Ok f

-- the captures of an analysis find rows, or are too many for those left
abbrev pub housed : ℕ → ℕ → Result Finding RecordFault → Result Finding RecordFault
housed left c (Err f) = Err f
housed left c (Ok f) = cond (nat_le (length f.captures) left) (Ok f) (Err (fault.Full c))

-- the type of a binding; of a number that is none, the error type
abbrev pub types_in : Meaning → Draft → ℕ → ℕ
types_in m d b = type_or m.error (binding_in d b)

module _ (g : Grounds) where
  abbrev pub count : ℕ
  count = length g.body.closures

  abbrev pub types : ℕ → ℕ
  types = types_in g.means g.body

  -- c directly encloses d
  abbrev pub encloses : ℕ → ℕ → Bool
  encloses c d = is_closure count c && (is_closure count d && home_in g.body d == c)

  -- at first every closure is open, and waits on those that it directly encloses
  abbrev pub new : History
  new = record { stage = λ c. fresh; waits = encloses }

  -- what the analysis of a closure enters, or why it is refused, by what is kept so far
  abbrev pub analysis_of : Ledger Kept → ℕ → Result Finding RecordFault
  analysis_of l c = housed (g.rows - filled count l) c (walked c (finding (looked_at g.means g.body c (told l)) (preset_in (l.stage c)) g.uses))

  abbrev pub enters : History → ℕ → Result Finding RecordFault → Result History RecordFault
  enters h c (Err f) = Err f
  enters h c (Ok f) = Ok (with_stage h c (analysed f))

  -- what a granted request enters
  abbrev pub entered : History → Request → Result History RecordFault
  entered h (Depend c d) = Ok (with_wait h c d)
  entered h (Preset c k) = Ok (with_stage h c (preset k))
  entered h (Analyse c) = enters h c (analysis_of (kept_by kept h) c)

  -- an answer and the history behind it: a refusal leaves the history as it was
  abbrev pub Answers : Result History RecordFault → History → Result (Unit {0}) RecordFault → History → Type 0
  Answers (Ok m') h r m = (r ≡ Ok tt) × (m ≡ m')
  Answers (Err f) h r m = (r ≡ Err f) × (m ≡ h)

  abbrev pub TurnedDown : History → Request → Result (Unit {0}) RecordFault → History → Type 0
  TurnedDown h q r m = (f : ClosureFault) × Refused count h q f × (r ≡ Err (fault.Closure f)) × (m ≡ h)

  -- from the history h a request leads to the answer r and the history m
  abbrev pub Requested : History → Request → Result (Unit {0}) RecordFault → History → Type 0
  Requested h q r m = TurnedDown h q r m ⊎ (Granted count h q × Answers (entered h q) h r m)

  abbrev pub AllAnalysed : History → Type 0
  AllAnalysed h = (c : ℕ) → is_closure count c ≡ true → is_analysed (h.stage c) ≡ true

  -- Infer-all analyses the lowest closure that waits on none left, until all are analysed or an analysis is refused.
  pub data Inferred : History → Result (Unit {0}) RecordFault → History → Type 0 where
    complete : {h : History} → AllAnalysed h → Inferred h (Ok tt) h
    stopped : {h : History} {c : ℕ} {f : RecordFault} → next_ready count h ≡ Some c → Requested h (Analyse c) (Err f) h → Inferred h (Err f) h
    onward : {h k m : History} {c : ℕ} {r : Result (Unit {0}) RecordFault} → next_ready count h ≡ Some c → Requested h (Analyse c) (Ok tt) k → Inferred k r m → Inferred h r m

  -- from the history h a call leads to the answer r and the history m
  abbrev pub Called : History → Call → Result (Unit {0}) RecordFault → History → Type 0
  Called h (One q) r m = Requested h q r m
  Called h InferAll r m = Inferred h r m
