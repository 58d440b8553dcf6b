-- What holds of every cut and of every narrowed use, in every world.
use Rattle.std.specs.Prelude.{◌≡◌, ℕ, ◌≤◌, Bool, true, false, not, ◌&&◌, List, length}
use Rattle.world.specs.Meaning.{Meaning}
use Rattle.world.specs.declared.shapes.Pointer.TheVariants.{ToRaw}
use Rattle.scale.specs.Modes.{mode_leq}
use Rattle.scale.specs.declared.modes.Mode.{Mode}
use Rattle.scale.specs.declared.modes.Mode.TheVariants.{Move}
use Rattle.place.specs.Places.{Spot, begins, lies_under}
use Rattle.narrow.specs.Walks.{meets, unsafe_at, until_deref, until_shared}
use Rattle.narrow.specs.Narrowing.{Used, cut, mode_cut, cut_to, is_move, reached, narrowed}

-- of cuts: one that cuts nothing away changes nothing, two are as one, and none turns the order of two modes or raises one
pub record Cutting (m : Meaning) : Type 0 where
  pub none : (t : ℕ) (u : Used) (n : ℕ) → length u.path ≤ n → cut m t u n ≡ u
  pub twice : (t : ℕ) (u : Used) (n k : ℕ) → k ≤ n → cut m t (cut m t u n) k ≡ cut m t u k
  pub keeps : (t : ℕ) (path : List ℕ) (n : ℕ) (x y : Mode) → mode_leq x y ≡ true → mode_leq (mode_cut m t path n x) (mode_cut m t path n y) ≡ true
  pub lowers : (t : ℕ) (path : List ℕ) (n : ℕ) (x : Mode) → mode_leq (mode_cut m t path n x) x ≡ true

-- the same of modes that are cut from place to place
pub record CuttingPlaces (m : Meaning) (types : ℕ → ℕ) : Type 0 where
  pub none : (p : Spot) (x : Mode) → cut_to m types p p x ≡ x
  pub twice : (p q r : Spot) (x : Mode) → lies_under p q ≡ true → lies_under q r ≡ true → cut_to m types q r (cut_to m types p q x) ≡ cut_to m types p r x
  pub keeps : (p q : Spot) (x y : Mode) → mode_leq x y ≡ true → mode_leq (cut_to m types p q x) (cut_to m types p q y) ≡ true

-- a path that the second and third rule leave: no step goes on from a raw pointer or a union, and none stands behind
-- the last dereference, if that is of a shared reference
abbrev pub Settled : Meaning → ℕ → List ℕ → Type 0
Settled m t path = (unsafe_at m t path ≡ length path) × (until_shared m t path ≡ length path)

-- no step is a dereference
abbrev pub Plain : List ℕ → Type 0
Plain path = until_deref path ≡ length path

-- the longest prefix of a path that has a property
pub record Longest (P : List ℕ → Type 0) (whole kept : List ℕ) : Type 0 where
  pub begins_whole : begins kept whole ≡ true
  pub has : P kept
  pub most : (q : List ℕ) → begins q whole ≡ true → P q → begins q kept ≡ true

-- of narrowed uses: binding and site stay, and the path is a prefix of the use's. After the third rule it is the
-- longest settled one; a use that then moves, and each use of a move closure, keeps the longest part of that without a
-- dereference. In a move closure every use moves. Elsewhere no mode rises, and a use moves exactly if it moved, its
-- type is not Copy and its path goes through no raw pointer.
pub record Narrowing (m : Meaning) (t : ℕ) (copies : Bool) (u : Used) : Type 0 where
  pub binding : (by_move : Bool) → (narrowed by_move copies m t u).binding ≡ u.binding
  pub site : (by_move : Bool) → (narrowed by_move copies m t u).site ≡ u.site
  pub prefix : (by_move : Bool) → begins (narrowed by_move copies m t u).path u.path ≡ true
  pub settled : Longest (Settled m t) u.path (reached copies m t u).path
  pub plain : (by_move : Bool) → (narrowed by_move copies m t u).mode ≡ Move → Longest Plain (reached copies m t u).path (narrowed by_move copies m t u).path
  pub moves : (narrowed true copies m t u).mode ≡ Move
  pub lowers : mode_leq (narrowed false copies m t u).mode u.mode ≡ true
  pub moved : is_move (narrowed false copies m t u).mode ≡ (is_move u.mode && (not copies && not (meets m ToRaw t u.path)))
