-- Prefixes of paths, and the order of places that they make.
use Rattle.std.proofs.Common.{◌≡◌, ℕ, zero, suc, ◌≤◌, Bool, true, false, eqb, ◌⊎◌, List, [], ◌∷◌, ◌++◌, length, take, drop, sym, refl, ap, ◌∙◌, ap₂, inl, inr, ⊎_elim, arith}
use Rattle.std.specs.List.{starts_with}
use Rattle.std.proofs.lemmas.Slice.Eq.{starts_is}
use Rattle.std.proofs.lemmas.Bool.{and_parts, and_from, eqb-true, eq-eqb, both_ways}
use Rattle.std.proofs.lemmas.Bool.Decides.{same_from_decides, Decides-eqb}
use Rattle.place.specs.Places.{Spot, begins, lies_under, Forest}

pub begins_self : (p : List ℕ) → begins p p ≡ true
begins_self [] = refl
begins_self (x ∷ p) = and_from (eqb x x) (begins p p) (eq-eqb x x refl) (begins_self p)

pub begins_one : (p q : List ℕ) → begins p q ≡ true → begins q p ≡ true → p ≡ q
begins_one [] [] h k = refl
begins_one [] (y ∷ q) h k = absurd (both_ways false refl k)
begins_one (x ∷ p) [] h k = absurd (both_ways false refl h)
begins_one (x ∷ p) (y ∷ q) h k =
    let a = and_parts (eqb x y) (begins p q) h in
    let b = and_parts (eqb y x) (begins q p) k in
    ap₂ (λ z l. z ∷ l) (eqb-true x y a.0) (begins_one p q a.1 b.1)

pub begins_far : (r q p : List ℕ) → begins r q ≡ true → begins q p ≡ true → begins r p ≡ true
begins_far [] q p h k = refl
begins_far (x ∷ r) [] p h k = absurd (both_ways false refl h)
begins_far (x ∷ r) (y ∷ q) [] h k = absurd (both_ways false refl k)
begins_far (x ∷ r) (y ∷ q) (z ∷ p) h k =
    let a = and_parts (eqb x y) (begins r q) h in
    let b = and_parts (eqb y z) (begins q p) k in
    and_from (eqb x z) (begins r p) (eq-eqb x z (eqb-true x y a.0 ∙ eqb-true y z b.0)) (begins_far r q p a.1 b.1)

pub begins_line : (p q r : List ℕ) → begins q p ≡ true → begins r p ≡ true → (begins r q ≡ true) ⊎ (begins q r ≡ true)
begins_line p [] r h k = inr refl
begins_line p (x ∷ q) [] h k = inl refl
begins_line [] (x ∷ q) (y ∷ r) h k = absurd (both_ways false refl h)
begins_line (z ∷ p) (x ∷ q) (y ∷ r) h k =
    let a = and_parts (eqb x z) (begins q p) h in
    let b = and_parts (eqb y z) (begins r p) k in
    let e : x ≡ y = eqb-true x z a.0 ∙ sym (eqb-true y z b.0) in
    ⊎_elim (λ g. inl (and_from (eqb y x) (begins r q) (eq-eqb y x (sym e)) g)) (λ g. inr (and_from (eqb x y) (begins q r) (eq-eqb x y e) g)) (begins_line p q r a.1 b.1)

-- the first steps of a path are a prefix of it
pub begins_take : (n : ℕ) (p : List ℕ) → begins (take n p) p ≡ true
begins_take zero p = refl
begins_take (suc n) [] = refl
begins_take (suc n) (x ∷ p) = and_from (eqb x x) (begins (take n p) p) (eq-eqb x x refl) (begins_take n p)

-- a path that begins with another is that one with more behind it
pub begins_splits : (q p : List ℕ) → begins q p ≡ true → p ≡ q ++ drop (length q) p
begins_splits [] p h = refl
begins_splits (x ∷ q) [] h = absurd (both_ways false refl h)
begins_splits (x ∷ q) (y ∷ p) h =
    let a = and_parts (eqb x y) (begins q p) h in
    ap₂ (λ z l. z ∷ l) (sym (eqb-true x y a.0)) (begins_splits q p a.1)

-- which is as long, and is its first steps
pub begins_le : (q p : List ℕ) → begins q p ≡ true → length q ≤ length p
begins_le [] p h = omega arith
begins_le (x ∷ q) [] h = absurd (both_ways false refl h)
begins_le (x ∷ q) (y ∷ p) h = let k = begins_le q p (and_parts (eqb x y) (begins q p) h).1 in omega arith

pub begins_is_take : (q p : List ℕ) → begins q p ≡ true → q ≡ take (length q) p
begins_is_take [] p h = refl
begins_is_take (x ∷ q) [] h = absurd (both_ways false refl h)
begins_is_take (x ∷ q) (y ∷ p) h =
    let a = and_parts (eqb x y) (begins q p) h in
    ap₂ (λ z l. z ∷ l) (eqb-true x y a.0) (begins_is_take q p a.1)

pub begins_append : (q p : List ℕ) → begins q (q ++ p) ≡ true
begins_append [] p = refl
begins_append (x ∷ q) p = and_from (eqb x x) (begins q (q ++ p)) (eq-eqb x x refl) (begins_append q p)

-- what `starts_with` answers, of the slices b and a that lend the steps p and q
starts_begins : (q p : List ℕ) (r : Bool) → r ≡ starts_with eqb p q → r ≡ begins q p
starts_begins q p r h =
    let s = starts_is Decides-eqb p q r h in
    same_from_decides {P = p ≡ q ++ drop (length q) p} r (begins q p) (s.0, s.1 (drop (length q) p)) (begins_splits q p, λ e. ap (begins q) e ∙ begins_append q (drop (length q) p))

pub starts_is_begins : (q p a b : List ℕ) (r : Bool) → a ≡ q → b ≡ p → r ≡ starts_with eqb b a → r ≡ begins q p
starts_is_begins q p a b r e f h = starts_begins a b r h ∙ ap₂ begins e f

pub under_parts : (p q : Spot) → lies_under p q ≡ true → (p.binding ≡ q.binding) × (begins q.path p.path ≡ true)
under_parts p q h =
    let a = and_parts (eqb p.binding q.binding) (begins q.path p.path) h in
    (eqb-true p.binding q.binding a.0, a.1)

pub under_from : (p q : Spot) → p.binding ≡ q.binding → begins q.path p.path ≡ true → lies_under p q ≡ true
under_from p q e h = and_from (eqb p.binding q.binding) (begins q.path p.path) (eq-eqb p.binding q.binding e) h

pub ancestry : Forest lies_under
ancestry = record {
  self = λ p. under_from p p refl (begins_self p.path);
  one = λ p q h k. let a = under_parts p q h in ap₂ {C = Spot} (λ b l. record { binding = b; path = l }) a.0 (begins_one p.path q.path (under_parts q p k).1 a.1);
  far = λ p q r h k. let a = under_parts p q h in let b = under_parts q r k in under_from p r (a.0 ∙ b.0) (begins_far r.path q.path p.path b.1 a.1);
  line = λ p q r h k. let a = under_parts p q h in let b = under_parts p r k in ⊎_elim (λ g. inl (under_from q r (sym a.0 ∙ b.0) g)) (λ g. inr (under_from r q (sym b.0 ∙ a.0) g)) (begins_line p.path q.path r.path a.1 b.1);
}
