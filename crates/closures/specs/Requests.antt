-- When a request about a closure is granted, when it is refused and why, and what it makes of the ledger.
use Rattle.std.specs.Prelude.{◌≡◌, ℕ, true, false, cond, ◌⊎◌, Some, None, Ok, Err, Option, Result}
use Rattle.waits.specs.Reach.{Waiting, Reach}
use Rattle.waits.specs.Words.{how_many}
use Rattle.closures.specs.declared.faults.ClosureFault.{ClosureFault}
use Rattle.closures.specs.declared.faults.ClosureFault.TheVariants as fault
use Rattle.closures.specs.declared.requests.Request.{Request}
use Rattle.closures.specs.declared.requests.Request.TheVariants.{Depend, Preset, Analyse}
use Rattle.closures.specs.declared.requests.Task.{Task}
use Rattle.closures.specs.Ledger.{Stage, fresh, preset, analysed, is_analysed, preset_in, Ledger, is_closure, first_left, with_wait, with_stage}

-- the closure that a request is about
abbrev pub subject : Request → ℕ
subject (Depend c d) = c
subject (Preset c k) = c
subject (Analyse c) = c

-- each number of a request is a closure's
abbrev pub Named : ℕ → Request → Type 0
Named n (Depend c d) = (is_closure n c ≡ true) × (is_closure n d ≡ true)
Named n (Preset c k) = is_closure n c ≡ true
Named n (Analyse c) = is_closure n c ≡ true

-- x is the first number of a request that is no closure's
abbrev pub Misnamed : ℕ → Request → ℕ → Type 0
Misnamed n (Depend c d) x = ((is_closure n c ≡ false) × (x ≡ c)) ⊎ ((is_closure n c ≡ true) × (is_closure n d ≡ false) × (x ≡ d))
Misnamed n (Preset c k) x = (is_closure n c ≡ false) × (x ≡ c)
Misnamed n (Analyse c) x = (is_closure n c ≡ false) × (x ≡ c)

module _ {A : Type 0} (n : ℕ) (l : Ledger A) where
  -- the wait would close a circle: the one waited on waits already, even through others, on the one that is to wait
  abbrev pub Closes : Request → Type 0
  Closes (Depend c d) = Reach (Waiting l.waits) d c
  Closes (Preset c k) = ⊥
  Closes (Analyse c) = ⊥

  -- the lowest closure that an analysis still waits for
  abbrev pub held_up : Request → Option ℕ
  held_up (Depend c d) = None
  held_up (Preset c k) = None
  held_up (Analyse c) = first_left n l c

  -- it names closures, and the one that it is about is not analysed
  abbrev pub Fits : Request → Type 0
  Fits q = Named n q × (is_analysed (l.stage (subject q)) ≡ false)

  abbrev pub Granted : Request → Type 0
  Granted q = Fits q × (Closes q → ⊥) × (held_up q ≡ None)

  abbrev pub Refused : Request → ClosureFault → Type 0
  Refused q (fault.NoClosure x) = Misnamed n q x
  Refused q (fault.Analysed x) = Named n q × (is_analysed (l.stage (subject q)) ≡ true) × (x ≡ subject q)
  Refused q (fault.Circle x) = Fits q × Closes q × (x ≡ subject q)
  Refused q (fault.Waits x) = Fits q × (held_up q ≡ Some x)
  Refused q (fault.NotAnalysed x) = ⊥

-- what a granted request makes of the ledger; what an analysis finds is entered later
abbrev pub granted : {A : Type 0} → Ledger A → Request → Ledger A
granted l (Depend c d) = with_wait l c d
granted l (Preset c k) = with_stage l c (preset k)
granted l (Analyse c) = l

-- what is then still to be done: the analysis that was asked for
abbrev pub task_of : {A : Type 0} → Ledger A → Request → Option Task
task_of l (Depend c d) = None
task_of l (Preset c k) = None
task_of l (Analyse c) = Some (record { closure = c; preset = preset_in (l.stage c) })

-- from the ledger l a request leads to the answer and to the ledger m
abbrev pub Decided : {A : Type 0} → ℕ → Ledger A → Request → Result (Option Task) ClosureFault → Ledger A → Type 0
Decided n l q (Ok t) m = Granted n l q × (t ≡ task_of l q) × (m ≡ granted l q)
Decided n l q (Err f) m = Refused n l q f × (m ≡ l)

abbrev pub found_at : {A : Type 0} → ℕ → Stage A → Result A ClosureFault
found_at c fresh = Err (fault.NotAnalysed c)
found_at c (preset k) = Err (fault.NotAnalysed c)
found_at c (analysed a) = Ok a

-- what was found of a closure
abbrev pub found_in : {A : Type 0} → ℕ → Ledger A → ℕ → Result A ClosureFault
found_in n l c = cond (is_closure n c) (found_at c (l.stage c)) (Err (fault.NoClosure c))

-- how many closures it waits on
abbrev pub waits_of : {A : Type 0} → ℕ → Ledger A → ℕ → Result ℕ ClosureFault
waits_of n l c = cond (is_closure n c) (Ok (how_many (l.waits c) n)) (Err (fault.NoClosure c))
