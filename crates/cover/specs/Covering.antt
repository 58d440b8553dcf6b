-- What the captures of a list of uses are: the least lawful list that serves them.
use Rattle.std.specs.Prelude.{◌≡◌, Bool, true, false, ◌⊎◌, ◌↔◌, List, [], ◌∷◌, map}
use Rattle.scale.specs.Scales.{IsScale}
use Rattle.place.specs.Places.{Forest}
use Rattle.cover.specs.Cover.{Used, Captured, captures}

-- a cutting rule: an empty cut does nothing, two cuts are as one, and a cut keeps the order
pub record Cuts {P S : Type 0} (under : P → P → Bool) (cut : P → P → S → S) (leq : S → S → Bool) : Type 0 where
  pub none : (p : P) (x : S) → cut p p x ≡ x
  pub twice : (p q r : P) (x : S) → under p q ≡ true → under q r ≡ true → cut q r (cut p q x) ≡ cut p r x
  pub keeps : (p q : P) (x y : S) → under p q ≡ true → leq x y ≡ true → leq (cut p q x) (cut p q y) ≡ true

pub record Rules {P S : Type 0} (under : P → P → Bool) (cut : P → P → S → S) (low : S) (leq : S → S → Bool) : Type 0 where
  pub places : Forest under
  pub scale : IsScale low leq
  pub cuts : Cuts under cut leq

-- a place with a mode, sites apart: what is asked, or an entry of a list that serves
pub record Entry (P S : Type 0) : Type 0 where
  pub place : P
  pub mode : S

abbrev pub asked : {P S : Type 0} → Used P S → Entry P S
asked u = record { place = u.place; mode = u.mode.value }

abbrev pub given : {P S : Type 0} → Captured P S → Entry P S
given c = record { place = c.place; mode = c.mode.value }

abbrev pub In : {X : Type 0} → X → List X → Type 0
In x [] = ⊥
In x (y ∷ ys) = (x ≡ y) ⊎ In x ys

-- each entry of the one list stands in the other
abbrev pub Within : {X : Type 0} → List X → List X → Type 0
Within {X} xs ys = (x : X) → In x xs → In x ys

abbrev pub Same : {X : Type 0} → List X → List X → Type 0
Same xs ys = Within xs ys × Within ys xs

module _ {P S : Type 0} (under : P → P → Bool) (cut : P → P → S → S) (low : S) (leq : S → S → Bool) where
  -- no place equals or is an ancestor of another
  abbrev pub Apart : Entry P S → Entry P S → Type 0
  Apart c d = (under c.place d.place ≡ false) × (under d.place c.place ≡ false)

  abbrev pub Lawful : List (Entry P S) → Type 0
  Lawful [] = Unit {0}
  Lawful (c ∷ cs) = ((d : Entry P S) → In d cs → Apart c d) × Lawful cs

  -- c serves what u asks: u lies under it, and its mode is at least u's mode cut to there
  abbrev pub Serves : Entry P S → Entry P S → Type 0
  Serves c u = (under u.place c.place ≡ true) × (leq (cut u.place c.place u.mode) c.mode ≡ true)

  -- a list serves u, and serves all of a list
  abbrev pub Served : List (Entry P S) → Entry P S → Type 0
  Served cs u = (c : Entry P S) × In c cs × Serves c u

  abbrev pub ServesAll : List (Entry P S) → List (Entry P S) → Type 0
  ServesAll cs us = (u : Entry P S) → In u us → Served cs u

  -- a used place that no used place is a proper ancestor of
  abbrev pub Top : List (Used P S) → P → Type 0
  Top us p = ((u : Used P S) × In u us × (u.place ≡ p)) × ((v : Used P S) → In v us → under p v.place ≡ true → v.place ≡ p)

  -- u lies under exactly one of the captures, and that serves it
  abbrev pub ServedByOne : List (Captured P S) → Used P S → Type 0
  ServedByOne cs u = (c : Captured P S) × In c cs × Serves (given c) (asked u) × ((d : Captured P S) → In d cs → under u.place d.place ≡ true → d ≡ c)

  -- the same lawful lists serve both lists of uses
  abbrev pub ServedAlike : List (Used P S) → List (Used P S) → Type 0
  ServedAlike us vs = (ds : List (Entry P S)) → Lawful ds → (ServesAll ds (map asked us) ↔ ServesAll ds (map asked vs))

  -- the captures cs cover the uses us: they stand at the used places that have no used ancestor, are lawful, serve each use
  -- by exactly one of them, and whatever lawful list serves the uses serves them; and another list of uses has the same
  -- captured places and modes, in whatever order, exactly when the same lawful lists serve both
  pub record Covers (us : List (Used P S)) (cs : List (Captured P S)) : Type 0 where
    pub places : (p : P) → Top us p ↔ In p (map (λ c. c.place) cs)
    pub lawful : Lawful (map given cs)
    pub serves : (u : Used P S) → In u us → ServedByOne cs u
    pub least : (ds : List (Entry P S)) → Lawful ds → ServesAll ds (map asked us) → ServesAll ds (map given cs)
    pub alike : (vs : List (Used P S)) → Same (map given cs) (map given (captures under cut low leq vs)) ↔ ServedAlike us vs
