-- What is kept of the closures 1 to n: the stage of each, with what its analysis found (of a type A), and which waits on which.
use Rattle.std.specs.Prelude.{ℕ, zero, suc, Bool, true, false, cond, not, ◌&&◌, ◌||◌, Some, None, Option, ◌==◌, nat_le}
use Rattle.scale.specs.declared.modes.Kind.{Kind}

pub data Stage (A : Type 0) : Type 0 where
  fresh : Stage A
  preset : Kind → Stage A
  analysed : A → Stage A

abbrev pub is_analysed : {A : Type 0} → Stage A → Bool
is_analysed fresh = false
is_analysed (preset k) = false
is_analysed (analysed a) = true

-- the kind that the analysis is to report, if one is preset
abbrev pub preset_in : {A : Type 0} → Stage A → Option Kind
preset_in fresh = None
preset_in (preset k) = Some k
preset_in (analysed a) = None

-- what is kept of the analysis, if there was one
abbrev pub analysis_in : {A : Type 0} → Stage A → Option A
analysis_in fresh = None
analysis_in (preset k) = None
analysis_in (analysed a) = Some a

-- the same stage, with something else kept of the analysis
abbrev pub staged : {A B : Type 0} → (A → B) → Stage A → Stage B
staged f fresh = fresh
staged f (preset k) = preset k
staged f (analysed a) = analysed (f a)

pub record Ledger (A : Type 0) : Type 0 where
  pub stage : ℕ → Stage A
  pub waits : ℕ → ℕ → Bool

abbrev pub kept_by : {A B : Type 0} → (A → B) → Ledger A → Ledger B
kept_by f l = record { stage = λ c. staged f (l.stage c); waits = l.waits }

abbrev pub is_closure : ℕ → ℕ → Bool
is_closure n c = nat_le 1 c && nat_le c n

abbrev pub or_else : Option ℕ → Option ℕ → Option ℕ
or_else None o = o
or_else (Some x) o = Some x

-- the lowest of the numbers 1 to n that passes a test
abbrev pub lowest : (ℕ → Bool) → ℕ → Option ℕ
lowest f zero = None
lowest f (suc n) = or_else (lowest f n) (cond (f (suc n)) (Some (suc n)) None)

abbrev pub is_none : Option ℕ → Bool
is_none None = true
is_none (Some x) = false

-- c waits on d, which is not analysed
abbrev pub left_of : {A : Type 0} → Ledger A → ℕ → ℕ → Bool
left_of l c d = l.waits c d && not (is_analysed (l.stage d))

module _ {A : Type 0} (n : ℕ) (l : Ledger A) where
  -- the lowest closure that c waits on and that is not analysed
  abbrev pub first_left : ℕ → Option ℕ
  first_left c = lowest (left_of l c) n

  -- c is not analysed, and waits on none left
  abbrev pub is_ready : ℕ → Bool
  is_ready c = not (is_analysed (l.stage c)) && is_none (first_left c)

  abbrev pub next_ready : Option ℕ
  next_ready = lowest is_ready n

abbrev pub with_wait : {A : Type 0} → Ledger A → ℕ → ℕ → Ledger A
with_wait l c d = record { stage = l.stage; waits = λ a b. l.waits a b || (a == c && b == d) }

abbrev pub with_stage : {A : Type 0} → Ledger A → ℕ → Stage A → Ledger A
with_stage l c s = record { stage = λ x. cond (x == c) s (l.stage x); waits = l.waits }
