-- The entries that bytes spell, by place.
use Rattle.std.proofs.Common.{◌≡◌, ℕ, zero, suc, ◌+◌, ◌*◌, ◌<◌, ◌≤◌, ◌⊎◌, inl, inr, List, [], ◌∷◌, length, get_or, drop, slice_get, Option, Some, None, min, sym, ap, ◌∙◌, arith}
use Rattle.std.specs.Option.{UnwrapsOrElse}
use Rattle.std.proofs.lemmas.Bool.{cases_lt}
use Rattle.std.proofs.lemmas.List.{get_or-drop, drop-drop}
use Rattle.std.proofs.Math.ListN.{drop_of_length-le}

-- the first of a list, or else what may stand past the end
first_or : {X : Type 0} (P : X → Type 0) (d : X) → ((x : X) → P x → x ≡ d) → (xs : List X) (o : Option X) (r : X) → o ≡ slice_get xs 0
    → UnwrapsOrElse o P r → r ≡ get_or xs 0 d
first_or P d h [] None r e u = h r u
first_or P d h [] (Some x) r e u = absurd (let z : ◌≡◌ {A = ℕ} 0 1 = cc in omega arith)
first_or P d h (x ∷ xs) None r e u = absurd (let z : ◌≡◌ {A = ℕ} 0 1 = cc in omega arith)
first_or P d h (x ∷ xs) (Some y) r e u = cc

-- a count of bytes that is too large for a number is past the end, as is the number in its place
drop_min : (bs : List ℕ) (m n : ℕ) → length bs ≤ n → drop (min m n) bs ≡ drop m bs
drop_min bs m n h = by (cases_lt m n)
  where
    by : (m < n) ⊎ (n ≤ m) → drop (min m n) bs ≡ drop m bs
    by (inl l) = ap (λ k. drop k bs) (omega arith)
    by (inr l) = drop_of_length-le bs (omega arith) ∙ sym (drop_of_length-le bs (omega arith))

module _ {X : Type 0} (all : List ℕ → List X) (size : ℕ) (steps : (bs : List ℕ) → drop 1 (all bs) ≡ all (drop size bs)) where
  -- the entries from a place on are those of the bytes from there on
  stepped : (i : ℕ) (bs : List ℕ) → drop i (all bs) ≡ all (drop (i * size) bs)
  stepped zero bs = ap (λ k. all (drop k bs)) (let z : 0 ≡ 0 * size = omega arith in z)
  stepped (suc i) bs =
      ap (λ k. drop k (all bs)) (let e : suc i ≡ 1 + i = omega arith in e) ∙ sym (drop-drop i 1 (all bs)) ∙ ap (drop i) (steps bs) ∙ stepped i (drop size bs)
      ∙ ap all (drop-drop (i * size) size bs ∙ ap (λ k. drop k bs) (omega arith))

  pub entry_at : (P : X → Type 0) (d : X) → ((x : X) → P x → x ≡ d) → (bs : List ℕ) (i n : ℕ) → length bs ≤ n → (o : Option X) (r : X)
      → o ≡ slice_get (all (drop (min (i * size) n) bs)) 0 → UnwrapsOrElse o P r → r ≡ get_or (all bs) i d
  entry_at P d h bs i n l o r e u =
      first_or P d h (all (drop (min (i * size) n) bs)) o r e u
      ∙ ap (λ xs. get_or xs 0 d) (ap all (drop_min bs (i * size) n l) ∙ sym (stepped i bs))
      ∙ get_or-drop i (all bs) 0 d ∙ ap (λ k. get_or (all bs) k d) (omega arith)
