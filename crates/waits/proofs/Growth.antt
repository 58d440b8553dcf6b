-- What a round of `grow` and of `reached` keeps.
use Rattle.std.proofs.Common.{◌≡◌, ℕ, zero, suc, ◌+◌, ◌<◌, ◌≤◌, true, false, ◌||◌, eqb, ◌⊎◌, List, length, get_or, sym, refl, ap, ◌∙◌, subst, inr, ⊎_elim, arith}
use Rattle.std.proofs.lemmas.List.{get_or_past}
use Rattle.std.proofs.lemmas.Bool.{or_cases, or_left, or_right, eqb-true, cases_eq, eq-eqb, both_ways, cases_lt}
use Rattle.waits.specs.Words.{has}
use Rattle.waits.specs.Reach.{Waits, Reach, here, on}
use Rattle.waits.proofs.Bits.{has_none}

-- all holds seen and what the closures up to i of seen wait on
pub record Grown (ws : List ℕ) (seen i all : ℕ) : Type 0 where
  pub rises : seen ≤ all
  pub sound : (d : ℕ) → has all d ≡ true → (has seen d ≡ true) ⊎ ((c : ℕ) × (has seen c ≡ true) × Waits ws c d)
  pub keeps : (d : ℕ) → has seen d ≡ true → has all d ≡ true
  pub grows : (c d : ℕ) → c ≤ i → has seen c ≡ true → Waits ws c d → has all d ≡ true

pub grown_skip : (ws : List ℕ) (seen i all : ℕ) → Grown ws seen i all → has seen (suc i) ≡ false → Grown ws seen (i + 1) all
grown_skip ws seen i all g h = record {
  rises = g.rises;
  sound = g.sound;
  keeps = g.keeps;
  grows = λ c d l s w. ⊎_elim (λ (e : c ≡ suc i). absurd (both_ways (has seen (suc i)) h (subst (λ (x : ℕ). has seen x ≡ true) e s))) (λ (n : c ≡ suc i → ⊥). g.grows c d (omega arith) s w) (cases_eq c (suc i));
}

pub grown_more : (ws : List ℕ) (seen i all w next : ℕ) → Grown ws seen i all → has seen (suc i) ≡ true → w ≡ get_or ws i 0 → all ≤ next → ((d : ℕ) → has next d ≡ (has all d || has w d))
    → Grown ws seen (i + 1) next
grown_more ws seen i all w next g h is rises both = record {
  rises = omega (arith, g.rises);
  sound = λ d s. ⊎_elim (g.sound d) (λ (t : has w d ≡ true). inr (suc i, h, subst (λ (x : ℕ). has x d ≡ true) is t)) (or_cases (has all d) (has w d) (sym (both d) ∙ s));
  keeps = λ d s. both d ∙ or_left (has all d) (has w d) (g.keeps d s);
  grows = λ c d l s t. both d ∙ ⊎_elim
      (λ (e : c ≡ suc i). or_right (has all d) (has w d) (subst (λ (x : ℕ). has x d ≡ true) (sym is) (subst (λ (x : ℕ). Waits ws x d) e t)))
      (λ (n : c ≡ suc i → ⊥). or_left (has all d) (has w d) (g.grows c d (omega arith) s t))
      (cases_eq c (suc i));
}

-- past the words no closure waits
past : (ws : List ℕ) (c d : ℕ) → length ws < c → Waits ws c d → ⊥
past ws zero d l w = omega arith
past ws (suc i) d l w = both_ways (has (get_or ws i 0) d) (ap (λ (n : ℕ). has n d) (get_or_past ws i 0 (omega arith)) ∙ has_none d) w

pub grown_all : (ws : List ℕ) (seen i all : ℕ) → Grown ws seen i all → length ws ≤ i → (c d : ℕ) → has seen c ≡ true → Waits ws c d → has all d ≡ true
grown_all ws seen i all g l c d s w = ⊎_elim (λ (k : i < c). absurd (past ws c d (omega arith) w)) (λ (k : c ≤ i). g.grows c d k s w) (cases_lt i c)

pub reach_on : {w : ℕ → ℕ → Type 0} {a b c : ℕ} → Reach w a b → w b c → Reach w a c
reach_on here s = on s here
reach_on (on s r) t = on s (reach_on r t)

pub reach_join : {w : ℕ → ℕ → Type 0} {a b c : ℕ} → Reach w a b → Reach w b c → Reach w a c
reach_join here s = s
reach_join (on s r) t = on s (reach_join r t)

-- a set that holds what its closures wait on holds what they reach
pub closed : (ws : List ℕ) (seen : ℕ) → ((c d : ℕ) → has seen c ≡ true → Waits ws c d → has seen d ≡ true)
    → (a b : ℕ) → Reach (Waits ws) a b → has seen a ≡ true → has seen b ≡ true
closed ws seen f a b here h = h
closed ws seen f a b (on {b = m} s r) h = closed ws seen f m b r (f a m h s)

pub only : (r from none : ℕ) (w : ℕ → ℕ → Type 0) → none ≡ 0 → ((d : ℕ) → has r d ≡ (has none d || eqb d from)) → (d : ℕ) → has r d ≡ true → Reach w from d
only r from none w e one d h = ⊎_elim
    (λ (t : has none d ≡ true). absurd (both_ways (has none d) (ap (λ (x : ℕ). has x d) e ∙ has_none d) t))
    (λ (t : eqb d from ≡ true). subst (λ (x : ℕ). Reach w from x) (sym (eqb-true d from t)) here)
    (or_cases (has none d) (eqb d from) (sym (one d) ∙ h))

pub itself : (r from none : ℕ) → ((d : ℕ) → has r d ≡ (has none d || eqb d from)) → has r from ≡ true
itself r from none one = one from ∙ or_right (has none from) (eqb from from) (eq-eqb from from refl)
