-- The tests after the last record, row by row.
use Rattle.std.proofs.Common.{◌≡◌, ℕ, ◌+◌, Bool, true, false, cond, ltb, List, [], ◌∷◌, Some, Option, refl}
use Rattle.std.specs.List.{find, enumerate_from}
use Rattle.std.specs.Option.{option_map}
use Rattle.indexing.specs.declared.rows.Row.{Row}
use Rattle.indexing.specs.Opening.{misowned, has_strayed, astray}

-- what is found, row by row
pub misowned_is : (k : ℕ) (rs : List Row) → option_map (λ (r : Row). r.offset) (find (λ (r : Row). ltb k r.home) rs) ≡ misowned k rs
misowned_is k [] = refl
misowned_is k (r ∷ rs) = by (ltb k r.home) (misowned_is k rs)
  where
    by : (b : Bool) → option_map (λ (r : Row). r.offset) (find (λ (r : Row). ltb k r.home) rs) ≡ misowned k rs
        → option_map (λ (r : Row). r.offset) (cond b (Some r) (find (λ (r : Row). ltb k r.home) rs)) ≡ cond b (Some r.offset) (misowned k rs)
    by true h = refl
    by false h = h

pub astray_is : (taken : List Bool) (n : ℕ) (rs : List Row)
    → option_map (λ (p : ℕ × Row). p.1.offset) (find (λ (p : ℕ × Row). has_strayed taken (p.0 + 1) p.1) (enumerate_from n rs)) ≡ astray taken (n + 1) rs
astray_is taken n [] = refl
astray_is taken n (r ∷ rs) = by (has_strayed taken (n + 1) r) (astray_is taken (n + 1) rs)
  where
    more : Option (ℕ × Row)
    more = find (λ (p : ℕ × Row). has_strayed taken (p.0 + 1) p.1) (enumerate_from (n + 1) rs)

    by : (b : Bool) → option_map (λ (p : ℕ × Row). p.1.offset) more ≡ astray taken (n + 1 + 1) rs
        → option_map (λ (p : ℕ × Row). p.1.offset) (cond b (Some (n, r)) more) ≡ cond b (Some r.offset) (astray taken (n + 1 + 1) rs)
    by true h = refl
    by false h = h
