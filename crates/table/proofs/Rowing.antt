-- The row of a number, from 1.
use Rattle.std.proofs.Common.{◌≡◌, ℕ, zero, suc, ◌<◌, ◌≤◌, List, [], ◌∷◌, map, length, get_or, Some, None, refl, arith}
use Rattle.reader.specs.Types.{TypeRow, type_of}
use Rattle.reader.specs.Pieces.{payload_at}
use Rattle.table.specs.Entries.{TypeEntry, entry_at}
use Rattle.reader.specs.Numbers.{numbered}

module _ (file : List ℕ) where
  abbrev rows : List ℕ → List TypeRow
  rows os = map (λ (e : TypeEntry). e.type) (map (entry_at file) os)

  past : (os : List ℕ) (n : ℕ) → length os ≤ n → None ≡ numbered (rows os) (suc n)
  past [] n l = refl
  past (o ∷ os) zero l = absurd (omega arith)
  past (o ∷ os) (suc n) l = past os n (omega arith)

  pub row_none : (os : List ℕ) (t i : ℕ) → t ≡ suc i → length os ≤ i → None ≡ numbered (rows os) t
  row_none os t i e l = rw e (past os i l)

  here : (os : List ℕ) (n : ℕ) → n < length os → Some (type_of (payload_at file (get_or os n 0))) ≡ numbered (rows os) (suc n)
  here [] n l = absurd (omega arith)
  here (o ∷ os) zero l = refl
  here (o ∷ os) (suc n) l = here os n (omega arith)

  pub row_some : (os : List ℕ) (t i o : ℕ) → t ≡ suc i → i < length os → o ≡ get_or os i 0 → Some (type_of (payload_at file o)) ≡ numbered (rows os) t
  row_some os t i o e l is = rw (e, is) (here os i l)
