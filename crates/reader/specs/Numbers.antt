-- Bytes as a row of numbers of two bytes each, high byte first; an odd byte at the end is left out.
use Rattle.std.specs.Prelude.{◌≡◌, ℕ, zero, suc, ◌+◌, ◌*◌, ◌/◌, ◌<◌, List, [], ◌∷◌, length, drop, refl, Some, None, Option}
use Rattle.std.proofs.Common.{arith}

abbrev pub numbers : List ℕ → List ℕ
numbers [] = []
numbers (h ∷ []) = []
numbers (h ∷ l ∷ bs) = (h * 256 + l) ∷ numbers bs

-- the element of a list by its number, from 1
abbrev pub numbered : {X : Type 0} → List X → ℕ → Option X
numbered xs zero = None
numbered [] (suc n) = None
numbered (x ∷ xs) (suc zero) = Some x
numbered (x ∷ xs) (suc (suc n)) = numbered xs (suc n)

-- the laws of a row of numbers
pub some_bytes : 0 < 2
some_bytes = omega arith

pub count_numbers : (bs : List ℕ) → length (numbers bs) ≡ length bs / 2
count_numbers [] = refl
count_numbers (h ∷ []) = refl
count_numbers (h ∷ l ∷ bs) = let e = count_numbers bs in omega arith

pub step_numbers : (bs : List ℕ) → drop 1 (numbers bs) ≡ numbers (drop 2 bs)
step_numbers [] = refl
step_numbers (h ∷ []) = refl
step_numbers (h ∷ l ∷ bs) = refl
