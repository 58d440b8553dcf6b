-- The row of a number, from 1.
use Rattle.std.proofs.Common.{◌≡◌, ℕ, zero, suc, ◌<◌, ◌≤◌, List, [], ◌∷◌, length, get_or, Some, None, Option, refl, ap, ◌∙◌, arith}
use Rattle.narrow_tests.specs.declared.sample.Row.{Row}
use Rattle.narrow_tests.specs.Sample.{row_of}

past : (rows : List Row) (i : ℕ) → length rows ≤ i → None ≡ row_of rows (suc i)
past [] i h = refl
past (r ∷ rows) zero h = absurd (omega arith)
past (r ∷ rows) (suc i) h = past rows i (omega arith)

here : (rows : List Row) (i : ℕ) (d : Row) → i < length rows → Some (get_or rows i d) ≡ row_of rows (suc i)
here [] i d h = absurd (omega arith)
here (r ∷ rows) zero d h = refl
here (r ∷ rows) (suc i) d h = here rows i d (omega arith)

pub row_past : (rows : List Row) (t i : ℕ) → t ≡ suc i → length rows ≤ i → None ≡ row_of rows t
row_past rows t i e h = rw e (past rows i h)

pub row_at : (rows : List Row) (t i : ℕ) (r : Row) → t ≡ suc i → i < length rows → r ≡ get_or rows i r → Some r ≡ row_of rows t
row_at rows t i r e h read = ap {B = Option Row} (λ x. Some x) read ∙ rw e (here rows i r h)
