-- Ways along waits, and circles of them.
use Rattle.std.specs.Prelude.{◌≡◌, ℕ, ◌≤◌, Bool, true, ◌&&◌, ◌||◌, List, ◌==◌}
use Rattle.waits.specs.Words.{waits_in}

-- c waits on d
abbrev pub Waiting : (ℕ → ℕ → Bool) → ℕ → ℕ → Type 0
Waiting w c d = w c d ≡ true

-- the same by a table of words
abbrev pub Waits : List ℕ → ℕ → ℕ → Type 0
Waits ws = Waiting (waits_in ws)

-- from a closure to another by waits, none or more
pub data Reach (w : ℕ → ℕ → Type 0) : ℕ → ℕ → Type 0 where
  here : {a : ℕ} → Reach w a a
  on : {a b c : ℕ} → w a b → Reach w b c → Reach w a c

-- no closure waits on itself, even through others
abbrev pub Acyclic : (ℕ → ℕ → Type 0) → Type 0
Acyclic w = (a b : ℕ) → w a b → Reach w b a → ⊥

-- every wait is of one of the closures up to n on another
abbrev pub Inside : ℕ → (ℕ → ℕ → Type 0) → Type 0
Inside n w = (c d : ℕ) → w c d → (c ≤ n) × (d ≤ n)

-- the waits, and one more, of c on d
abbrev pub one_more : (ℕ → ℕ → Bool) → ℕ → ℕ → ℕ → ℕ → Bool
one_more w c d a b = w a b || (a == c && b == d)
