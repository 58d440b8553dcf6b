-- Tables of waits, and that no circle comes of one wait more.
use Rattle.std.proofs.Common.{◌≡◌, ℕ, zero, suc, ◌<◌, ◌≤◌, Bool, true, false, ◌&&◌, ◌||◌, eqb, ◌⊎◌, List, length, get_or, set, replicate, Ok, Err, Result, sym, ap, ◌∙◌, subst, inl, inr, ⊎_elim, arith, get_or-set_other, get_or-set_same}
use Rattle.std.proofs.Math.Bool.{or-false}
use Rattle.std.proofs.Math.Dec.{eqb-suc-suc, eqb-zero-suc}
use Rattle.std.proofs.lemmas.Bool.{or_cases, and_parts, eqb-true, eq-eqb, ne_eqb, cases_eq, both_ways}
use Rattle.waits.specs.Words.{has, word, waits_in}
use Rattle.waits.specs.Reach.{Waiting, Reach, here, on, Acyclic, Inside, one_more}
use Rattle.waits.specs.Table.{waits_by, Added}
use Rattle.waits.specs.declared.reach.Circle.{Circle}
use Rattle.waits.specs.declared.table.Waits.{Waits}
use Rattle.waits.proofs.Bits.{has_none}
use Rattle.waits.proofs.Growth.{reach_join}

-- v has the waits of w, and at most one more, of c on d, which closes no circle
module _ (w v : ℕ → ℕ → Type 0) (c d : ℕ) (more : (a b : ℕ) → v a b → w a b ⊎ ((a ≡ c) × (b ≡ d) × (Reach w d c → ⊥))) where
  -- a way by v goes by w, or by the one more, for the first time from c and for the last time to d
  split : (a x : ℕ) → Reach v a x → Reach w a x ⊎ (Reach w a c × Reach w d x × (Reach w d c → ⊥))
  split a x here = inl here
  split a x (on {b = m} s r) = go (more a m s) (split m x r)
    where
      go : w a m ⊎ ((a ≡ c) × (m ≡ d) × (Reach w d c → ⊥)) → Reach w m x ⊎ (Reach w m c × Reach w d x × (Reach w d c → ⊥)) → Reach w a x ⊎ (Reach w a c × Reach w d x × (Reach w d c → ⊥))
      go (inl t) (inl q) = inl (on t q)
      go (inl t) (inr q) = inr (on t q.0, q.1, q.2)
      go (inr t) (inl q) = inr (subst (λ (y : ℕ). Reach w a y) t.0 here, subst (λ (y : ℕ). Reach w y x) t.1 q, t.2)
      go (inr t) (inr q) = inr (subst (λ (y : ℕ). Reach w a y) t.0 here, q.1, q.2)

  pub acyclic_more : Acyclic w → Acyclic v
  acyclic_more ok a b s r = go (more a b s) (split b a r)
    where
      go : w a b ⊎ ((a ≡ c) × (b ≡ d) × (Reach w d c → ⊥)) → Reach w b a ⊎ (Reach w b c × Reach w d a × (Reach w d c → ⊥)) → ⊥
      go (inl t) (inl q) = ok a b t q
      go (inl t) (inr q) = q.2 (reach_join q.1 (on t q.0))
      go (inr t) (inl q) = t.2 (subst (λ (y : ℕ). Reach w d y) t.0 (subst (λ (y : ℕ). Reach w y a) t.1 q))
      go (inr t) (inr q) = q.2 (subst (λ (y : ℕ). Reach w d y) t.0 q.1)

pub one_cases : (w : ℕ → ℕ → Bool) (c d a b : ℕ) → one_more w c d a b ≡ true → Waiting w a b ⊎ ((a ≡ c) × (b ≡ d))
one_cases w c d a b h = ⊎_elim inl (λ (t : (eqb a c && eqb b d) ≡ true). let p = and_parts (eqb a c) (eqb b d) t in inr (eqb-true a c p.0, eqb-true b d p.1)) (or_cases (w a b) (eqb a c && eqb b d) h)

-- one wait more closes no circle where the one waited on does not reach the one that waits
pub acyclic_one : (w v : ℕ → ℕ → Bool) (c d : ℕ) → v ≡ one_more w c d → (Reach (Waiting w) d c → ⊥) → Acyclic (Waiting w) → Acyclic (Waiting v)
acyclic_one w v c d e free ok =
    acyclic_more (Waiting w) (Waiting v) c d (λ a b h. ⊎_elim inl (λ p. inr (p.0, p.1, free)) (one_cases w c d a b (sym (λ p. e p a b) ∙ h))) ok

-- and stays among the closures 1 to n
pub inside_one : (w v : ℕ → ℕ → Bool) (c d n : ℕ) → v ≡ one_more w c d → c ≤ n → d ≤ n → Inside n (Waiting w) → Inside n (Waiting v)
inside_one w v c d n e lc ld inside a b h = ⊎_elim (inside a b) (λ p. (omega (arith, p.0), omega (arith, p.1))) (one_cases w c d a b (sym (λ p. e p a b) ∙ h))

pub inside_added : (t u : Waits) (c d n : ℕ) (r : Result (Unit {0}) Circle) → Added t c d r u → c ≤ n → d ≤ n → Inside n (Waiting (waits_by t)) → Inside n (Waiting (waits_by u))
inside_added t u c d n (Ok r) a lc ld inside = inside_one (waits_by t) (waits_by u) c d n a.1 lc ld inside
inside_added t u c d n (Err r) a lc ld inside = subst (λ (x : Waits). Inside n (Waiting (waits_by x))) (sym a.1) inside

-- a word of the table is replaced by one that has one closure more
module _ (ws : List ℕ) (i d v : ℕ) (lt : i < length ws) (e : (b : ℕ) → has v b ≡ (has (get_or ws i 0) b || eqb b d)) where
  word_set : (a b : ℕ) → waits_in (set ws i v) a b ≡ one_more (waits_in ws) (suc i) d a b
  word_set zero b = sym (or-false (has 0 b)) ∙ (λ p. has 0 b || (sym (eqb-zero-suc i) p && eqb b d))
  word_set (suc k) b = ⊎_elim
      (λ (q : k ≡ i).
      ap (λ (x : ℕ). has x b) (ap (λ (x : ℕ). get_or (set ws i v) x 0) q ∙ get_or-set_same ws i v 0 lt) ∙ e b
      ∙ (λ p. has (get_or ws (sym q p) 0) b || (sym (eqb-suc-suc k i ∙ eq-eqb k i q) p && eqb b d)))
      (λ (q : k ≡ i → ⊥).
      ap (λ (x : ℕ). has x b) (get_or-set_other ws i k v 0 q) ∙ sym (or-false (has (get_or ws k 0) b))
      ∙ (λ p. has (get_or ws k 0) b || (sym (eqb-suc-suc k i ∙ ne_eqb k i q) p && eqb b d)))
      (cases_eq k i)

  pub waits_set : (c : ℕ) → suc i ≡ c → waits_in (set ws i v) ≡ one_more (waits_in ws) c d
  waits_set c at = (λ p a b. word_set a b p) ∙ ap (λ (x : ℕ). one_more (waits_in ws) x d) at

-- a table of the empty set
module _ (n s : ℕ) (e : s ≡ 0) where
  word_none : (c d : ℕ) → has (word (replicate n s) c) d ≡ false
  word_none zero d = has_none d
  word_none (suc i) d = go n i
    where
      go : (m k : ℕ) → has (get_or (replicate m s) k zero) d ≡ false
      go zero k = has_none d
      go (suc m) zero = ap (λ (x : ℕ). has x d) e ∙ has_none d
      go (suc m) (suc k) = go m k

  pub none_by : (c d : ℕ) → waits_in (replicate n s) c d ≡ false
  none_by c d = word_none c d

  pub none_waits : (c d : ℕ) → Waiting (waits_in (replicate n s)) c d → ⊥
  none_waits c d h = both_ways (waits_in (replicate n s) c d) (none_by c d) h
