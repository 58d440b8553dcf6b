-- The highest entry of a list, on any scale: of equals the earliest; of no entries, the lowest value at site 0.
use Rattle.std.specs.Prelude.{◌≡◌, Bool, true, false, cond, ◌⊎◌, List, [], ◌∷◌}
use Rattle.scale.specs.declared.sited.Sited.{Sited}

module _ {S : Type 0} (low : S) (leq : S → S → Bool) where
  -- the entry x before the entry y: x stands unless y is above it
  abbrev pub higher : Sited S → Sited S → Sited S
  higher x y = cond (leq y.value x.value) x y

  abbrev pub highest : List (Sited S) → Sited S
  highest [] = record { value = low; site = 0 }
  highest (x ∷ xs) = higher x (highest xs)

  -- the value of r is at least that of every entry
  abbrev pub Above : List (Sited S) → Sited S → Type 0
  Above [] r = Unit {0}
  Above (x ∷ xs) r = (leq x.value r.value ≡ true) × Above xs r

  -- r is an entry, and no entry before it reaches its value
  abbrev pub First : List (Sited S) → Sited S → Type 0
  First [] r = ⊥
  First (x ∷ xs) r = (x ≡ r) ⊎ ((leq r.value x.value ≡ false) × First xs r)

  -- the law of the highest entry, by which it is known whatever computes it
  abbrev pub Tops : List (Sited S) → Sited S → Type 0
  Tops [] r = (r.value ≡ low) × (r.site ≡ 0)
  Tops (x ∷ xs) r = Above (x ∷ xs) r × First (x ∷ xs) r
