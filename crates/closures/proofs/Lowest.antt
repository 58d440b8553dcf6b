-- The lowest number that passes a test, as a loop finds it.
use Rattle.std.proofs.Common.{◌≡◌, ℕ, zero, suc, ◌+◌, ◌<◌, ◌≤◌, Bool, true, cond, Some, None, Option, sym, refl, ap, ◌∙◌, ⊎_elim, add-one, arith}
use Rattle.std.proofs.lemmas.Bool.{cases_eq}
use Rattle.closures.specs.Ledger.{or_else, lowest}

-- what is found among the first numbers is found among more
past : (f : ℕ → Bool) (m x n : ℕ) → m ≤ n → lowest f m ≡ Some x → lowest f n ≡ Some x
past f m x zero le h = ap (lowest f) (zero_of m le) ∙ h
  where
    zero_of : (k : ℕ) → k ≤ 0 → 0 ≡ k
    zero_of k l = omega arith
past f m x (suc n) le h = ⊎_elim
    (λ (e : m ≡ suc n). ap (lowest f) (sym e) ∙ h)
    (λ (e : m ≡ suc n → ⊥). ap (λ (o : Option ℕ). or_else o (cond (f (suc n)) (Some (suc n)) None)) (past f m x n (omega arith) h))
    (cases_eq m (suc n))

pub lowest_found : (f : ℕ → Bool) (i n : ℕ) → lowest f i ≡ None → f (suc i) ≡ true → i < n → lowest f n ≡ Some (i + 1)
lowest_found f i n none is lt = rw add-one (past f (suc i) (suc i) n (omega arith) (λ p. or_else (none p) (cond (is p) (Some (suc i)) None)))

pub lowest_all : (f : ℕ → Bool) (i n : ℕ) → lowest f i ≡ None → n ≤ i → lowest f n ≡ None
lowest_all f i n none le = by (lowest f n) refl
  where
    by : (o : Option ℕ) → lowest f n ≡ o → lowest f n ≡ None
    by None e = e
    by (Some x) e = let h : Some x ≡ None = sym (past f n x i le e) ∙ none in absurd (cc)
