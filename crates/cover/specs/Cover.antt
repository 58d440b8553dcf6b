-- The captures of a list of uses, over any places with ancestors and any scale whose values are cut on the way to an ancestor.
use Rattle.std.specs.Prelude.{ℕ, Bool, false, cond, ◌||◌, List, [], ◌∷◌, ◌++◌, map, take, drop, Some, None, Option}
use Rattle.std.specs.Option.{option_map}
use Rattle.std.specs.List.{cons_option, filter_map}
use Rattle.scale.specs.Highest.{highest}
use Rattle.scale.specs.declared.sited.Sited.{Sited}

-- a use: a place, and the mode asked of it, which is a value of the scale with the site that asks it
pub record Used (P S : Type 0) : Type 0 where
  pub place : P
  pub mode : Sited S

-- a capture: a place, its mode with the site that set it, and the site of the first use under it
pub record Captured (P S : Type 0) : Type 0 where
  pub place : P
  pub mode : Sited S
  pub first : ℕ

-- Places. `under p q` tells that p lies under q: p is q, or q is an ancestor of p.
module _ {P S : Type 0} (under : P → P → Bool) where
  -- the root of a place: the highest used place that it lies under; the place itself, where there is none
  abbrev pub root : List (Used P S) → P → P
  root [] p = p
  root (u ∷ us) p = root us (cond (under p u.place) u.place p)

  -- one of the uses lies under p
  abbrev pub some_under : List (Used P S) → P → Bool
  some_under [] p = false
  some_under (u ∷ us) p = under u.place p || some_under us p

  -- a use at p opens a capture at its root, if no use seen before it lies under that
  abbrev pub opens : List (Used P S) → List (Used P S) → P → Option P
  opens all seen p = cond (some_under seen (root all p)) None (Some (root all p))

  -- the places that the uses behind the seen ones open: each captured place once, in order of the first use under it.
  -- The uses x.0, y, x have the roots x, y, x: the first opens x, the second y, the third none
  abbrev pub roots : List (Used P S) → List (Used P S) → List (Used P S) → List P
  roots all seen [] = []
  roots all seen (u ∷ us) = cons_option (opens all seen u.place) (roots all (seen ++ u ∷ []) us)

  -- the place that the next of the uses behind the seen ones opens, if there is one and it opens any
  abbrev pub opens_next : List (Used P S) → List (Used P S) → List (Used P S) → Option P
  opens_next all seen [] = None
  opens_next all seen (u ∷ us) = opens all seen u.place

-- the site of the first entry; 0, where there is none
abbrev pub first_site : {S : Type 0} → List (Sited S) → ℕ
first_site [] = 0
first_site (e ∷ es) = e.site

-- Modes. `cut p q x` is what the mode x at p comes to at q, which p lies under.
module _ {P S : Type 0} (under : P → P → Bool) (cut : P → P → S → S) where
  -- what a use tells of the mode at p: its own, cut to there, if it lies under p
  abbrev pub tells : P → Used P S → Option (Sited S)
  tells p u = cond (under u.place p) (Some (record { value = cut u.place p u.mode.value; site = u.mode.site })) None

  module _ (low : S) (leq : S → S → Bool) where
    -- the capture at p: the highest mode that the uses under p tell, and the site of the first of them
    abbrev pub capture_at : List (Used P S) → P → Captured P S
    capture_at us p = record {
      place = p;
      mode = highest low leq (filter_map (tells p) us);
      first = first_site (filter_map (tells p) us);
    }

    abbrev pub captures : List (Used P S) → List (Captured P S)
    captures us = map (capture_at us) (roots under us [] us)

    -- the capture that the i-th use opens, counted from 0; none, if it opens none or there is no such use
    abbrev pub capture_opened : List (Used P S) → ℕ → Option (Captured P S)
    capture_opened us i = option_map (capture_at us) (opens_next under us (take i us) (drop i us))
