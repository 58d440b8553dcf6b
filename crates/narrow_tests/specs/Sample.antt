-- The sample world: what a list of rows says of types, numbered from 1.
use Rattle.std.specs.Prelude.{ℕ, zero, suc, Bool, true, cond, List, [], ◌∷◌, Some, None, Option, nat_lt, refl}
use Rattle.world.specs.Meaning.{Meaning, Sound}
use Rattle.world.specs.declared.shapes.Shape.{Shape}
use Rattle.world.specs.declared.shapes.Shape.TheVariants.{Error}
use Rattle.narrow_tests.specs.declared.sample.Row.{Row}

-- the row of a number
abbrev pub row_of : List Row → ℕ → Option Row
row_of rows zero = None
row_of [] (suc n) = None
row_of (r ∷ rows) (suc zero) = Some r
row_of (r ∷ rows) (suc (suc n)) = row_of rows (suc n)

-- a number without a row has the shape error and is Copy
abbrev pub shape_of : Option Row → Shape
shape_of None = Error
shape_of (Some r) = r.shape

abbrev pub copy_of : Option Row → Bool
copy_of None = true
copy_of (Some r) = r.copies

-- a dereference and the first field lead to the first type, the second field to the second, all else to the error type
abbrev pub target_of : Option Row → ℕ → ℕ
target_of None s = 0
target_of (Some r) s = cond (nat_lt s 3) r.first (cond (nat_lt s 5) r.second 0)

abbrev pub sample_world : List Row → Meaning
sample_world rows = record {
  error = 0;
  shape = λ t. shape_of (row_of rows t);
  copies = λ t. copy_of (row_of rows t);
  step = λ t s. target_of (row_of rows t) s;
}

pub sample_sound : (rows : List Row) → Sound (sample_world rows)
sample_sound rows = record { fails = refl; stays = λ s. refl }
