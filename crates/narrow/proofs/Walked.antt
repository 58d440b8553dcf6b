-- One more step of a walk.
use Rattle.std.proofs.Common.{◌≡◌, ◌≢◌, ◌==◌, ltb, not, unwrap_or, ℕ, zero, suc, ◌+◌, ◌<◌, ◌≤◌, Bool, true, false, cond, eqb, List, [], ◌∷◌, length, get_or, drop, Some, None, Option, sym, refl, ap, ◌∙◌, ap₂, add-zero, arith}
use Rattle.std.proofs.lemmas.List.{at_drop_more, at_drop_all}
use Rattle.std.specs.List.{position, position_or_len}
use Rattle.std.proofs.lemmas.Bool.{eq-eqb, ne_eqb, ltb-false}
use Rattle.std.proofs.lemmas.List.Sums.{prefix_len-le-length}
use Rattle.std.proofs.lemmas.List.Recursion.{is_position_or_len}
use Rattle.world.specs.Meaning.{Meaning}
use Rattle.world.specs.Shapes.{is_stop}
use Rattle.world.specs.declared.shapes.Shape.{Shape}
use Rattle.narrow.specs.Walks.{unsafe_at, until_deref, behind, last_deref}

module _ (m : Meaning) (path : List ℕ) (i t : ℕ) (r : ℕ) where
  stop_here : i < length path → i + unsafe_at m t (drop i path) ≡ r → i + cond (is_stop (m.shape t)) 0 (suc (unsafe_at m (m.step t (get_or path i 0)) (drop (i + 1) path))) ≡ r
  stop_here h inv = ap (λ n. i + n) (sym (at_drop_more (unsafe_at m t) path i 0 h)) ∙ inv

  pub stop_found : (s : Shape) (b : Bool) → i < length path → s ≡ m.shape t → b ≡ is_stop s → b ≡ true → i + unsafe_at m t (drop i path) ≡ r → i ≡ r
  stop_found s b h shaped is taken inv = sym (add-zero i) ∙ ap (λ x. i + cond x 0 (suc (unsafe_at m (m.step t (get_or path i 0)) (drop (i + 1) path)))) (sym taken ∙ is ∙ ap is_stop shaped) ∙ stop_here h inv

  pub stop_all : i ≤ length path → length path ≤ i → i + unsafe_at m t (drop i path) ≡ r → length path ≡ r
  stop_all g h inv = omega (arith, at_drop_all (unsafe_at m t) path i h)

-- the number of steps before the first dereference, as `position` finds it
position_is : (b : Bool) (p n : ℕ) → (b ≡ false → p ≡ n) → unwrap_or (cond b (Some p) None) n ≡ p
position_is true p n h = refl
position_is false p n h = sym (h refl)

pub until_is : (path : List ℕ) → unwrap_or (position (λ s. s == 0) path) (length path) ≡ until_deref path
until_is path =
    let before = position_or_len (λ s. s == 0) path in
    position_is (ltb before (length path)) before (length path) (λ h. omega (arith, ltb-false before (length path) h, prefix_len-le-length (λ s. not (s == 0)) path)) ∙ sym (is_position_or_len until_deref (λ s. s == 0) refl (λ x xs. ap (λ n. cond (eqb x 0) 0 n) (omega arith)) path)

-- the last dereference, by the steps behind it
last_none : (path : List ℕ) → ((i : ℕ) → i < length path → get_or path i 0 ≢ 0) → None ≡ last_deref path
last_none [] h = refl
last_none (x ∷ path) h = ap₂ behind (sym (ne_eqb x 0 (h 0 (omega arith)))) (last_none path (λ i l. h (suc i) (omega arith)))

last_at : (path : List ℕ) (k : ℕ) → k < length path → get_or path k 0 ≡ 0 → ((i : ℕ) → k < i → i < length path → get_or path i 0 ≢ 0) → Some k ≡ last_deref path
last_at [] k l is h = absurd (omega arith)
last_at (x ∷ path) zero l is h = ap₂ behind (sym (eq-eqb x 0 is)) (last_none path (λ i l. h (suc i) (omega arith) (omega arith)))
last_at (x ∷ path) (suc k) l is h = ap (behind (eqb x 0)) (last_at path k (omega arith) is (λ i m l. h (suc i) (omega arith) (omega arith)))

pub last_is : (path : List ℕ) (o : Option ℕ)
    → (o ≡ None → (i : ℕ) → i < length path → get_or path i 0 ≢ 0)
    → ((k : ℕ) → o ≡ Some k → (k < length path) × (get_or path k 0 ≡ 0) × ((i : ℕ) → k < i → i < length path → get_or path i 0 ≢ 0))
    → o ≡ last_deref path
last_is path None h g = last_none path (h refl)
last_is path (Some k) h g = let a = g k refl in last_at path k a.0 a.1 a.2

behind_lt : (path : List ℕ) (b : Bool) (o : Option ℕ) (k : ℕ) → ((j : ℕ) → o ≡ Some j → j < length path) → behind b o ≡ Some k → k < suc (length path)
behind_lt path true None k ih e = let z : 0 ≡ k = cc in omega arith
behind_lt path false None k ih e = let z : ◌≡◌ {A = ℕ} 0 1 = cc in omega arith
behind_lt path b (Some j) k ih e = let z : suc j ≡ k = cc in omega (arith, ih j refl)

pub last_lt : (path : List ℕ) (k : ℕ) → last_deref path ≡ Some k → k < length path
last_lt [] k e = let z : ◌≡◌ {A = ℕ} 0 1 = cc in omega arith
last_lt (x ∷ path) k e = behind_lt path (eqb x 0) (last_deref path) k (last_lt path) e
