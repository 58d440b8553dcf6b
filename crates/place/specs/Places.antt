-- What paths and places say: the list of a path's steps, and which places lie under which.
use Rattle.std.specs.Prelude.{◌≡◌, ℕ, Bool, true, false, cond, not, ◌&&◌, ◌⊎◌, List, [], ◌∷◌, ◌++◌, length, take, Some, None, Option, ◌==◌, nat_lt}
use Rattle.std.specs.Option.{option_map}
use Rattle.place.specs.declared.path.Path.{Path}
use Rattle.place.specs.declared.places.Place.{Place}

-- a place as the rules see it: a binding and the steps from it
pub record Spot : Type 0 where
  pub binding : ℕ
  pub path : List ℕ

-- the steps of a path: those before its end
abbrev pub steps_of : Path → List ℕ
steps_of p = take p.len p.steps

abbrev pub spot : Place → Spot
spot p = record { binding = p.binding; path = steps_of p.path }

-- one step more behind a path, which has at most 16 steps
abbrev pub extended : List ℕ → ℕ → Option (List ℕ)
extended p s = cond (nat_lt (length p) 16) (Some (p ++ s ∷ [])) None

abbrev pub spot_extended : Spot → ℕ → Option Spot
spot_extended p s = option_map (λ l. record { binding = p.binding; path = l }) (extended p.path s)

-- whether the second path begins with the first
abbrev pub begins : List ℕ → List ℕ → Bool
begins [] p = true
begins (x ∷ q) [] = false
begins (x ∷ q) (y ∷ p) = x == y && begins q p

-- whether p is q or lies below it: one binding, and the path of p begins with that of q
abbrev pub lies_under : Spot → Spot → Bool
lies_under p q = p.binding == q.binding && begins q.path p.path

-- whether p and q are one place
abbrev pub same_spot : Spot → Spot → Bool
same_spot p q = lies_under p q && lies_under q p

-- whether q is a proper ancestor of p: p lies below it
abbrev pub is_ancestor : Spot → Spot → Bool
is_ancestor q p = lies_under p q && not (lies_under q p)

-- places with ancestors: `under` is an order, in which the ancestors of a place form a chain
pub record Forest {P : Type 0} (under : P → P → Bool) : Type 0 where
  pub self : (p : P) → under p p ≡ true
  pub one : (p q : P) → under p q ≡ true → under q p ≡ true → p ≡ q
  pub far : (p q r : P) → under p q ≡ true → under q r ≡ true → under p r ≡ true
  pub line : (p q r : P) → under p q ≡ true → under p r ≡ true → (under q r ≡ true) ⊎ (under r q ≡ true)
