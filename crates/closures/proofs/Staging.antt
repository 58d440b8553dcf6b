-- One state of the table is written.
use Rattle.std.proofs.Common.{◌≡◌, ℕ, zero, suc, ◌+◌, ◌<◌, ◌≤◌, Bool, true, false, cond, eqb, List, length, get_or, set, replicate, Option, IfSome, sym, refl, ap, ◌∙◌, subst, ⊎_elim, arith, get_or-set_other, get_or-set_same}
use Rattle.std.proofs.Math.Dec.{eqb-suc-suc, eqb-zero-suc}
use Rattle.std.proofs.lemmas.Bool.{eqb-true, eq-eqb, ne_eqb, cases_eq, both_ways}
use Rattle.closures.specs.declared.states.Analysis.{Analysis}
use Rattle.closures.specs.declared.states.State.{State}
use Rattle.closures.specs.declared.states.State.TheVariants.{Open, Preset, Analysed}
use Rattle.closures.specs.Keeping.{state_in, rows, end, rows_kept, Below, total}
use Rattle.closures.specs.Ledger.{Stage, Ledger, is_analysed, analysis_in, with_stage}
use Rattle.closures.specs.Views.{stage_of}

state_at : (ss : List State) (i : ℕ) (s : State) → i < length ss → (x : ℕ) → state_in (set ss i s) x ≡ cond (eqb x (suc i)) s (state_in ss x)
state_at ss i s lt zero = ap (λ (t : Bool). cond t s Open) (sym (eqb-zero-suc i))
state_at ss i s lt (suc k) =
    ⊎_elim
    (λ (q : k ≡ i). ap (λ (x : ℕ). get_or (set ss i s) x Open) q ∙ get_or-set_same ss i s Open lt ∙ ap (λ (t : Bool). cond t s (get_or ss k Open)) (sym (eq-eqb k i q)))
    (λ (q : k ≡ i → ⊥). get_or-set_other ss i k s Open q ∙ ap (λ (t : Bool). cond t s (get_or ss k Open)) (sym (ne_eqb k i q)))
    (cases_eq k i)
    ∙ ap (λ (t : Bool). cond t s (get_or ss k Open)) (sym (eqb-suc-suc k i))

-- the state of the closure c, at the place i, is written
module _ (ss : List State) (i c : ℕ) (s : State) (lt : i < length ss) (at : suc i ≡ c) where
  -- what holds of the new state and of the old ones holds after
  module _ {A : Type 0} (f : State → A) where
    through : (b : Bool) (t : State) → f (cond b s t) ≡ cond b (f s) (f t)
    through true t = refl
    through false t = refl

    pub read_set : (x : ℕ) → f (state_in (set ss i s) x) ≡ cond (eqb x c) (f s) (f (state_in ss x))
    read_set x = ap f (state_at ss i s lt x) ∙ through (eqb x (suc i)) (state_in ss x) ∙ ap (λ (y : ℕ). cond (eqb x y) (f s) (f (state_in ss x))) at

  -- the ledger behind it
  pub ledger_set : (w : ℕ → ℕ → Bool) → ◌≡◌ {A = Ledger Analysis} (record { stage = λ x. stage_of (state_in (set ss i s) x); waits = w }) (with_stage (record { stage = λ x. stage_of (state_in ss x); waits = w }) c (stage_of s))
  ledger_set w = λ p. record { stage = λ x. read_set stage_of x p; waits = w }

open_everywhere : (n c : ℕ) → state_in (replicate n Open) c ≡ Open
open_everywhere n zero = refl
open_everywhere n (suc i) = go n i
  where
    go : (m k : ℕ) → get_or (replicate m Open) k Open ≡ Open
    go zero k = refl
    go (suc m) zero = refl
    go (suc m) (suc k) = go m k

pub stage_open : (n c : ℕ) → stage_of (state_in (replicate n Open) c) ≡ Stage.fresh
stage_open n c = ap stage_of (open_everywhere n c)

pub below_open : (n : ℕ) → Below 0 (replicate n Open)
below_open n c = subst (λ (s : State). end s ≤ 0) (sym (open_everywhere n c)) (omega arith)

pub sums_open : (m n : ℕ) → 0 ≡ total (rows_kept (replicate m Open)) n
sums_open m zero = refl
sums_open m (suc n) = omega (arith, sums_open m n, ap rows (open_everywhere m (suc n)))

-- an analysis of so many rows is entered behind the filled ones
module _ (ss : List State) (i c n filled more : ℕ) (a : Analysis) (lt : i < length ss) (at : suc i ≡ c) (from : a.from ≡ filled) (count : a.count ≡ more) where
  pub below_set : Below filled ss → Below (filled + more) (set ss i (Analysed a))
  below_set below x = subst (λ (k : ℕ). k ≤ filled + more) (sym (read_set ss i c (Analysed a) lt at end x)) (by (eqb x c))
    where
      by : (b : Bool) → cond b (end (Analysed a)) (end (state_in ss x)) ≤ filled + more
      by true = omega arith
      by false = omega (arith, below x)

  same_total : (f g : ℕ → ℕ) (m : ℕ) → ((x : ℕ) → x ≤ m → f x ≡ g x) → total f m ≡ total g m
  same_total f g zero h = refl
  same_total f g (suc m) h = λ p. same_total f g m (λ x l. h x (omega arith)) p + h (suc m) (omega arith) p

  total_more : (f g : ℕ → ℕ) (k m : ℕ) → 1 ≤ k → k ≤ m → f k ≡ 0 → g k ≡ more → ((x : ℕ) → (x ≡ k → ⊥) → f x ≡ g x) → total f m + more ≡ total g m
  total_more f g k zero lo hi none is other = absurd (omega arith)
  total_more f g k (suc m) lo hi none is other = ⊎_elim
      (λ (e : k ≡ suc m).
      let low : total f m ≡ total g m = same_total f g m (λ x l. other x (λ (q : x ≡ k). omega arith)) in
      let nothing : f (suc m) ≡ 0 = ap f (sym e) ∙ none in
      let this : g (suc m) ≡ more = ap g (sym e) ∙ is in
      omega arith)
      (λ (e : k ≡ suc m → ⊥).
      let low : total f m + more ≡ total g m = total_more f g k m lo (omega arith) none is other in
      let same : f (suc m) ≡ g (suc m) = other (suc m) (λ (q : suc m ≡ k). e (sym q)) in
      omega arith)
      (cases_eq k (suc m))

  pub sums_set : i < n → rows (state_in ss c) ≡ 0 → filled ≡ total (rows_kept ss) n → filled + more ≡ total (rows_kept (set ss i (Analysed a))) n
  sums_set le none sums =
      let counts : (x : ℕ) → rows_kept (set ss i (Analysed a)) x ≡ cond (eqb x c) a.count (rows (state_in ss x)) = read_set ss i c (Analysed a) lt at rows in
      ap (λ (k : ℕ). k + more) sums
      ∙ total_more (rows_kept ss) (rows_kept (set ss i (Analysed a))) c n (omega arith) (omega arith) none
      (counts c ∙ ap (λ (b : Bool). cond b a.count (rows (state_in ss c))) (eq-eqb c c refl) ∙ count)
      (λ x (ne : x ≡ c → ⊥). sym (counts x ∙ ap (λ (b : Bool). cond b a.count (rows (state_in ss x))) (ne_eqb x c ne)))

pub no_rows : (s : State) → is_analysed (stage_of s) ≡ false → rows s ≡ 0
no_rows Open h = refl
no_rows (Preset k) h = refl
no_rows (Analysed a) h = absurd (both_ways true h refl)

pub total_same : (f g : ℕ → ℕ) (n : ℕ) → ((x : ℕ) → f x ≡ g x) → total f n ≡ total g n
total_same f g zero h = refl
total_same f g (suc n) h = λ p. total_same f g n h p + h (suc n) p

-- and what is written in place of a state that is not analysed has no rows either
module _ (ss : List State) (i c : ℕ) (s : State) (lt : i < length ss) (at : suc i ≡ c) where
  pub below_preset : (filled : ℕ) → end s ≡ 0 → Below filled ss → Below filled (set ss i s)
  below_preset filled none below x = subst (λ (k : ℕ). k ≤ filled) (sym (read_set ss i c s lt at end x)) (by (eqb x c))
    where
      by : (b : Bool) → cond b (end s) (end (state_in ss x)) ≤ filled
      by true = omega arith
      by false = below x

  pub sums_same : (n : ℕ) → rows s ≡ rows (state_in ss c) → total (rows_kept ss) n ≡ total (rows_kept (set ss i s)) n
  sums_same n e = total_same (rows_kept ss) (rows_kept (set ss i s)) n (λ x. by x (eqb x c) refl ∙ sym (read_set ss i c s lt at rows x))
    where
      by : (x : ℕ) (b : Bool) → eqb x c ≡ b → rows (state_in ss x) ≡ cond b (rows s) (rows (state_in ss x))
      by x true q = ap (λ (y : ℕ). rows (state_in ss y)) (eqb-true x c q) ∙ sym e
      by x false q = refl

-- what an analysis found stands within the filled rows
pub within_filled : (ss : List State) (filled i : ℕ) (o : Option Analysis) → Below filled ss → o ≡ analysis_in (stage_of (get_or ss i Open)) → IfSome o (λ a. a.from + a.count ≤ filled)
within_filled ss filled i o below e = subst (λ (x : Option Analysis). IfSome x (λ a. a.from + a.count ≤ filled)) (sym e) (by (get_or ss i Open) (below (suc i)))
  where
    by : (s : State) → end s ≤ filled → IfSome (analysis_in (stage_of s)) (λ a. a.from + a.count ≤ filled)
    by Open le = tt
    by (Preset k) le = tt
    by (Analysed a) le = le
