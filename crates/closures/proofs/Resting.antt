-- Where no closure waits on itself, and some are left, one of those waits on none left.
use Rattle.std.proofs.Common.{◌≡◌, ℕ, zero, suc, ◌+◌, ◌<◌, ◌≤◌, Bool, true, false, cond, not, ◌||◌, eqb, leb, Some, None, Option, sym, refl, ap, ◌∙◌, subst, ⊎_elim, arith}
use Rattle.std.proofs.lemmas.Bool.{both_ways, cases_Bool, cases_eq, or_cases, or_left, or_right, eq-eqb, eqb-true, and_parts, and_from, not-true, not_from_false, leb-true}
use Rattle.waits.specs.Words.{how_many}
use Rattle.waits.specs.Reach.{Waiting, Reach, here, Acyclic}
use Rattle.waits.proofs.Growth.{reach_on}
use Rattle.closures.specs.Ledger.{Ledger, is_analysed, is_closure, or_else, lowest, is_none, left_of, first_left, is_ready, next_ready}

pub closure_parts : (n c : ℕ) → is_closure n c ≡ true → (1 ≤ c) × (c ≤ n)
closure_parts n c h = let p = and_parts (leb 1 c) (leb c n) h in (leb-true 1 c p.0, leb-true c n p.1)

at_most : (b : Bool) → cond b 1 0 ≤ 1
at_most true = omega arith
at_most false = omega arith

many_le : (f : ℕ → Bool) (k : ℕ) → how_many f k ≤ k
unfolding how_many
many_le f zero = omega arith
many_le f (suc k) = omega (arith, many_le f k, at_most (f (suc k)))

grow_or : (a b : Bool) → (a ≡ true → b ≡ true) → cond a 1 0 ≤ cond b 1 0
grow_or true b h = one b (h refl)
  where
    one : (c : Bool) → c ≡ true → 1 ≤ cond c 1 0
    one true e = omega arith
    one false e = absurd (both_ways false refl e)
grow_or false true h = omega arith
grow_or false false h = omega arith

many_more : (f g : ℕ → Bool) (k : ℕ) → ((x : ℕ) → f x ≡ true → g x ≡ true) → how_many f k ≤ how_many g k
unfolding how_many
many_more f g zero h = omega arith
many_more f g (suc k) h = omega (arith, many_more f g k h, grow_or (f (suc k)) (g (suc k)) (h (suc k)))

-- one more passes
pub many_less : (f g : ℕ → Bool) (k d : ℕ) → ((x : ℕ) → f x ≡ true → g x ≡ true) → 1 ≤ d → d ≤ k → f d ≡ false → g d ≡ true → how_many f k < how_many g k
unfolding how_many
many_less f g zero d h lo hi no_f yes_g = absurd (omega arith)
many_less f g (suc k) d h lo hi no_f yes_g = ⊎_elim
    (λ (q : d ≡ suc k).
    let zf : ◌≡◌ {A = ℕ} (cond (f (suc k)) 1 0) 0 = ap (λ (b : Bool). cond b 1 0) (ap f (sym q) ∙ no_f) in
    let og : ◌≡◌ {A = ℕ} (cond (g (suc k)) 1 0) 1 = ap (λ (b : Bool). cond b 1 0) (ap g (sym q) ∙ yes_g) in
    omega (arith, many_more f g k h))
    (λ (q : d ≡ suc k → ⊥). omega (arith, many_less f g k d h lo (omega arith) no_f yes_g, grow_or (f (suc k)) (g (suc k)) (h (suc k))))
    (cases_eq d (suc k))

-- what no number past n passes is counted up to n
pub many_past : (f : ℕ → Bool) (n m : ℕ) → n ≤ m → ((x : ℕ) → n < x → f x ≡ false) → how_many f m ≡ how_many f n
unfolding how_many
many_past f n zero le none = ap (how_many f) (zero_of n le)
  where
    zero_of : (k : ℕ) → k ≤ 0 → 0 ≡ k
    zero_of k l = omega arith
many_past f n (suc m) le none = ⊎_elim
    (λ (e : n ≡ suc m). ap (how_many f) (sym e))
    (λ (e : n ≡ suc m → ⊥). step (many_past f n m (omega arith) none) (none (suc m) (omega arith)))
    (cases_eq n (suc m))
  where
    step : how_many f m ≡ how_many f n → f (suc m) ≡ false → how_many f (suc m) ≡ how_many f n
    step h no_f = let z : ◌≡◌ {A = ℕ} (cond (f (suc m)) 1 0) 0 = ap (λ (b : Bool). cond b 1 0) no_f in omega (arith, h)

-- a search among 1 to n: what the lowest one is, and what none means
pub lowest_is : (f : ℕ → Bool) (n x : ℕ) → lowest f n ≡ Some x → (f x ≡ true) × (1 ≤ x) × (x ≤ n)
lowest_is f zero x h = absurd (cc)
lowest_is f (suc n) x h = by (lowest_is f n x) (lowest f n) refl (f (suc n)) refl
  where
    by : (lowest f n ≡ Some x → (f x ≡ true) × (1 ≤ x) × (x ≤ n)) → (o : Option ℕ) → lowest f n ≡ o → (b : Bool) → f (suc n) ≡ b → (f x ≡ true) × (1 ≤ x) × (x ≤ suc n)
    by rec (Some y) e b q =
        let same : Some y ≡ Some x = (λ p. or_else (sym e p) (cond (f (suc n)) (Some (suc n)) None)) ∙ h in
        let eq : y ≡ x = cc in
        let r = rec (e ∙ same) in (r.0, r.1, omega (arith, r.2))
    by rec None e true q =
        let same : Some (suc n) ≡ Some x = (λ p. or_else (sym e p) (cond (sym q p) (Some (suc n)) None)) ∙ h in
        let eq : suc n ≡ x = cc in
        (subst (λ (y : ℕ). f y ≡ true) eq q, omega arith, omega arith)
    by rec None e false q = let z : None ≡ Some x = (λ p. or_else (sym e p) (cond (sym q p) (Some (suc n)) None)) ∙ h in absurd (cc)

pub none_is : (f : ℕ → Bool) (n : ℕ) → lowest f n ≡ None → (x : ℕ) → 1 ≤ x → x ≤ n → f x ≡ false
none_is f zero h x lo hi = absurd (omega arith)
none_is f (suc n) h x lo hi = by (λ e le. none_is f n e x lo le) (lowest f n) refl (f (suc n)) refl
  where
    by : (lowest f n ≡ None → x ≤ n → f x ≡ false) → (o : Option ℕ) → lowest f n ≡ o → (b : Bool) → f (suc n) ≡ b → f x ≡ false
    by rec (Some y) e b q = let z : None ≡ Some y = sym h ∙ (λ p. or_else (e p) (cond (f (suc n)) (Some (suc n)) None)) in absurd (cc)
    by rec None e true q = let z : None ≡ Some (suc n) = sym h ∙ (λ p. or_else (e p) (cond (q p) (Some (suc n)) None)) in absurd (cc)
    by rec None e false q = ⊎_elim (λ (z : x ≡ suc n). ap f z ∙ q) (λ (z : x ≡ suc n → ⊥). rec e (omega arith)) (cases_eq x (suc n))

module _ {A : Type 0} (n : ℕ) (l : Ledger A) (free : Acyclic (Waiting l.waits)) where
  abbrev Resting : Type 0
  Resting = (r : ℕ) × (1 ≤ r) × (r ≤ n) × (is_ready n l r ≡ true)

  abbrev Along : (ℕ → Bool) → ℕ → Type 0
  Along seen c = (1 ≤ c) × (c ≤ n) × (is_analysed (l.stage c) ≡ false) × ((x : ℕ) → seen x ≡ true → Reach (Waiting l.waits) x c)

  -- one step along a wait on a closure that is left, or c is ready
  onward : (fuel : ℕ) (seen : ℕ → Bool) (c : ℕ) → n < suc fuel + how_many seen n → Along seen c
      → ((seen' : ℕ → Bool) (d : ℕ) → n < fuel + how_many seen' n → Along seen' d → Resting) → (o : Option ℕ) → first_left n l c ≡ o → Resting
  onward fuel seen c more a rec None e = (c, a.0, a.1, and_from _ _ (not_from_false _ a.2) (ap is_none e))
  onward fuel seen c more a rec (Some d) e =
      let at = lowest_is (left_of l c) n d e in
      let parts = and_parts (l.waits c d) (not (is_analysed (l.stage d))) at.0 in
      let new : seen d ≡ false = ⊎_elim (λ (s : seen d ≡ true). absurd (free c d parts.0 (a.3 d s))) (λ (s : seen d ≡ false). s) (cases_Bool (seen d)) in
      let more_seen : how_many seen n < how_many (λ x. seen x || eqb x d) n = many_less seen (λ x. seen x || eqb x d) n d (λ x s. or_left (seen x) (eqb x d) s) at.1 at.2 new (or_right (seen d) (eqb d d) (eq-eqb d d refl)) in
      rec (λ x. seen x || eqb x d) d (omega arith) (
        at.1,
        at.2,
        not-true (is_analysed (l.stage d)) parts.1,
        λ x s. ⊎_elim (λ (t : seen x ≡ true). reach_on (a.3 x t) parts.0) (λ (t : eqb x d ≡ true). subst (λ (y : ℕ). Reach (Waiting l.waits) x y) (eqb-true x d t) here) (or_cases (seen x) (eqb x d) s),
      )

  -- from c on, along waits on closures that are left: none of those seen comes again
  walk : (fuel : ℕ) (seen : ℕ → Bool) (c : ℕ) → n < fuel + how_many seen n → Along seen c → Resting
  walk zero seen c more a = absurd (omega (arith, many_le seen n))
  walk (suc fuel) seen c more a = onward fuel seen c more a (walk fuel) (first_left n l c) refl

  -- where none is ready, all are analysed
  pub all_analysed : next_ready n l ≡ None → (c : ℕ) → is_closure n c ≡ true → is_analysed (l.stage c) ≡ true
  all_analysed none c closure =
      let lim = closure_parts n c closure in
      ⊎_elim (λ (e : is_analysed (l.stage c) ≡ true). e)
      (λ (left : is_analysed (l.stage c) ≡ false).
      let r = walk (suc n) (λ x. eqb x c) c (omega arith) (lim.0, lim.1, left, λ x s. subst (λ (y : ℕ). Reach (Waiting l.waits) x y) (eqb-true x c s) here) in
      absurd (both_ways _ (none_is (is_ready n l) n none r.0 r.1 r.2) r.3))
      (cases_Bool (is_analysed (l.stage c)))
