-- What the steps of a cut come to, and the laws of cuts.
use Rattle.std.proofs.Common.{◌≡◌, ℕ, zero, suc, ◌≤◌, Bool, true, false, ◌||◌, List, [], ◌∷◌, length, take, drop, sym, refl, ap, ◌∙◌, ap₂, not-suc-le-zero, arith}
use Rattle.std.proofs.lemmas.List.{take-take, take_all, drop_all}
use Rattle.std.proofs.lemmas.Bool.Decides.{nat_tests}
use Rattle.world.specs.Meaning.{Meaning}
use Rattle.world.specs.declared.shapes.Pointer.{Pointer}
use Rattle.world.specs.declared.shapes.Pointer.TheVariants.{ToMutable}
use Rattle.scale.specs.Modes.{mode_leq}
use Rattle.scale.specs.declared.modes.Mode.{Mode}
use Rattle.scale.specs.declared.modes.Mode.TheVariants.{Imm, Unique, Mut, Move}
use Rattle.place.specs.Places.{Spot, lies_under}
use Rattle.place.proofs.Prefixes.{under_parts, begins_le, begins_is_take}
use Rattle.narrow.specs.Walks.{type_after, derefs, meets}
use Rattle.narrow.specs.Narrowing.{Used, cuts_through, cut_mode, mode_cut, cut_to}
use Rattle.narrow.specs.Laws.{Cutting, CuttingPlaces}

-- `cuts_through` past the end, and on the two parts of a path
pub through_none : (m : Meaning) (t : ℕ) (path : List ℕ) (n : ℕ) → length path ≤ n → false ≡ cuts_through m t path n
through_none m t path n h = sym (ap (meets m ToMutable (type_after m t (take n path))) (drop_all n path h))

or_assoc : (a b c : Bool) → ((a || b) || c) ≡ (a || (b || c))
or_assoc true b c = refl
or_assoc false b c = refl

-- a walk in two parts
pub meets_parts : (m : Meaning) (s : Pointer) (t : ℕ) (path : List ℕ) (n : ℕ) → meets m s t path ≡ (meets m s t (take n path) || meets m s (type_after m t (take n path)) (drop n path))
meets_parts m s t path zero = refl
meets_parts m s t [] (suc n) = refl
meets_parts m s t (x ∷ path) (suc n) =
    ap (λ w. derefs m s t x || w) (meets_parts m s (m.step t x) path n) ∙ sym (or_assoc (derefs m s t x) (meets m s (m.step t x) (take n path)) (meets m s (type_after m (m.step t x) (take n path)) (drop n path)))

-- what is cut away at k, in the two parts that a cut at n makes
pub through_parts : (m : Meaning) (t : ℕ) (path : List ℕ) (n k : ℕ) → k ≤ n → cuts_through m t path k ≡ (cuts_through m t (take n path) k || cuts_through m t path n)
through_parts m t path n zero h = meets_parts m ToMutable t path n
through_parts m t path zero (suc k) h = absurd (not-suc-le-zero h)
through_parts m t [] (suc n) (suc k) h = refl
through_parts m t (x ∷ path) (suc n) (suc k) h = through_parts m (m.step t x) path n k (omega arith)

cut_mode_none : (x : Mode) → cut_mode false x ≡ x
cut_mode_none Imm = refl
cut_mode_none Unique = refl
cut_mode_none Mut = refl
cut_mode_none Move = refl

cut_mode_twice : (a b : Bool) (x : Mode) → cut_mode a (cut_mode b x) ≡ cut_mode (a || b) x
cut_mode_twice a b Imm = refl
cut_mode_twice a b Unique = refl
cut_mode_twice true true Mut = refl
cut_mode_twice true false Mut = refl
cut_mode_twice false true Mut = refl
cut_mode_twice false false Mut = refl
cut_mode_twice a b Move = refl

pub cut_mode_keeps : (b : Bool) (x y : Mode) → mode_leq x y ≡ true → mode_leq (cut_mode b x) (cut_mode b y) ≡ true
cut_mode_keeps b x y h = grind (arith, nat_tests)

pub cut_mode_lowers : (b : Bool) (x : Mode) → mode_leq (cut_mode b x) x ≡ true
cut_mode_lowers b x = grind (arith, nat_tests)

module _ (m : Meaning) where
  mode_none : (t : ℕ) (path : List ℕ) (n : ℕ) (x : Mode) → length path ≤ n → mode_cut m t path n x ≡ x
  mode_none t path n x h = ap (λ b. cut_mode b x) (sym (through_none m t path n h)) ∙ cut_mode_none x

  mode_twice : (t : ℕ) (path : List ℕ) (n k : ℕ) (x : Mode) → k ≤ n → mode_cut m t (take n path) k (mode_cut m t path n x) ≡ mode_cut m t path k x
  mode_twice t path n k x h =
      cut_mode_twice (cuts_through m t (take n path) k) (cuts_through m t path n) x ∙ ap (λ b. cut_mode b x) (sym (through_parts m t path n k h))

  pub cutting : Cutting m
  cutting = record {
    none = λ t u n h. ap₂ {C = Used} (λ p x. record { binding = u.binding; path = p; mode = x; site = u.site }) (take_all n u.path h) (mode_none t u.path n u.mode h);
    twice = λ t u n k h. ap₂ {C = Used} (λ p x. record { binding = u.binding; path = p; mode = x; site = u.site }) (take-take k n u.path h) (mode_twice t u.path n k u.mode h);
    keeps = λ t path n x y h. cut_mode_keeps (cuts_through m t path n) x y h;
    lowers = λ t path n x. cut_mode_lowers (cuts_through m t path n) x;
  }

  module _ (types : ℕ → ℕ) where
    twice_to : (p q r : Spot) (x : Mode) → lies_under p q ≡ true → lies_under q r ≡ true → cut_to m types q r (cut_to m types p q x) ≡ cut_to m types p r x
    twice_to p q r x h k =
        let a = under_parts p q h in
        let b = under_parts q r k in
        ap₂ (λ n l. mode_cut m (types n) l (length r.path) (cut_to m types p q x)) (sym a.0) (begins_is_take q.path p.path a.1) ∙ mode_twice (types p.binding) p.path (length q.path) (length r.path) x (begins_le r.path q.path b.1)

    pub cutting_places : CuttingPlaces m types
    cutting_places = record {
      none = λ p x. mode_none (types p.binding) p.path (length p.path) x (omega arith);
      twice = twice_to;
      keeps = λ p q x y h. cut_mode_keeps (cuts_through m (types p.binding) p.path (length q.path)) x y h;
    }
