-- What the analysis of a closure finds, of the uses that its body records: the narrowed uses, the kind, the captures, and
-- whether the closure's type is Copy; or the refusal that it meets.
use Rattle.std.specs.Prelude.{ℕ, Bool, true, false, cond, ◌&&◌, List, [], ◌∷◌, map, Some, None, Ok, Err, Option, Result}
use Rattle.scale.specs.declared.modes.Kind.{Kind}
use Rattle.scale.specs.declared.modes.Mode.{Mode}
use Rattle.scale.specs.declared.modes.Mode.TheVariants.{Imm, Unique, Mut, Move}
use Rattle.scale.specs.declared.sited.Sited.{Sited}
use Rattle.place.specs.Places.{Spot}
use Rattle.narrow.specs.Kinds.{closure_kind}
use Rattle.narrow.specs.Narrowing.{Used, is_move, reached, before_dereference}
use Rattle.narrow.specs.Walks.{type_after}
use Rattle.cover.specs.Cover.{Captured}
use Rattle.mode_cover.specs.Modes.{captures_by_mode, opened_by_mode, from_narrowed}
use Rattle.body.specs.declared.bodies.ClosureNode.{ClosureNode}
use Rattle.body.specs.Answers.{closure_in}
use Rattle.scene.specs.declared.faults.WalkFault.{WalkFault}
use Rattle.scene.specs.declared.faults.WalkFault.TheVariants.{NotAnalysed}
use Rattle.events.specs.Events.{play}
use Rattle.events.specs.Matches.{type_copies, binding_type}
use Rattle.scene.specs.Scenes.{Setting}
use Rattle.walk.specs.Walks.{uses_of}

pub record Finding : Type 0 where
  pub uses : List Used
  pub kind : Sited Kind
  pub captures : List (Captured Spot Mode)
  pub copies : Bool

-- each answer, or none where one of them is none
abbrev pub and_each : {X : Type 0} → Option X → Option (List X) → Option (List X)
and_each None xs = None
and_each (Some x) None = None
and_each (Some x) (Some xs) = Some (x ∷ xs)

abbrev pub each : {X Y : Type 0} → (X → Option Y) → List X → Option (List Y)
each f [] = Some []
each f (x ∷ xs) = and_each (f x) (each f xs)

-- both of two answers, or none where one of them is none
abbrev pub and_both : Option Bool → Option Bool → Option Bool
and_both None b = None
and_both (Some a) None = None
and_both (Some a) (Some b) = Some (a && b)

-- the kind is the one that was preset, at site 0, or else the highest that the uses call for
abbrev pub kind_or : Option Kind → List Used → Sited Kind
kind_or None us = closure_kind us
kind_or (Some k) us = record { value = k; site = 0 }

abbrev pub by_move : Option ClosureNode → Bool
by_move None = false
by_move (Some c) = c.by_move

module _ (s : Setting) where
  -- whether the closure is a move closure
  abbrev pub moves : Bool
  moves = by_move (closure_in s.body s.closure)

  -- whether the type of a place is Copy; none of a closure that is not analysed
  abbrev pub place_copies : ℕ → List ℕ → Option Bool
  place_copies b path = type_copies s (type_after s.means (binding_type s b) path)

  -- what the first rule asks of a use: of a move, whether its place's type is Copy; of any other nothing
  abbrev pub asks_copy : Used → Option Bool
  asks_copy u = cond (is_move u.mode) (place_copies u.binding u.path) (Some false)

  abbrev pub reach_with : Used → Option Bool → Option Used
  reach_with u None = None
  reach_with u (Some copies) = Some (reached copies s.means (binding_type s u.binding) u)

  -- a use after the first three rules
  abbrev pub reach_use : Used → Option Used
  reach_use u = reach_with u (asks_copy u)

  abbrev pub captures_in : List Used → List (Captured Spot Mode)
  captures_in us = captures_by_mode s.means (binding_type s) (map from_narrowed us)

  -- the capture that the i-th of the uses opens, if any
  abbrev pub opened_in : List Used → ℕ → Option (Captured Spot Mode)
  opened_in us i = opened_by_mode s.means (binding_type s) (map from_narrowed us) i

  -- a capture lets the closure be Copy if it is a shared borrow, or moves what is Copy
  abbrev pub copies_at : Spot → Mode → Option Bool
  copies_at p Imm = Some true
  copies_at p Unique = Some false
  copies_at p Mut = Some false
  copies_at p Move = place_copies p.binding p.path

  -- a closure is Copy if all its captures let it be; the type of every capture by move is asked
  abbrev pub all_copy : List (Captured Spot Mode) → Option Bool
  all_copy [] = Some true
  all_copy (c ∷ cs) = and_both (copies_at c.place c.mode.value) (all_copy cs)

  -- what is asked of the capture that a use opens, if any
  abbrev pub opener_copies : Option (Captured Spot Mode) → Option Bool
  opener_copies None = Some true
  opener_copies (Some c) = copies_at c.place c.mode.value

  abbrev pub settle : Sited Kind → List Used → Option Bool → Result Finding WalkFault
  settle k us None = Err NotAnalysed
  settle k us (Some copies) = Ok (record { uses = us; kind = k; captures = captures_in us; copies = copies })

  abbrev pub conclude : Sited Kind → List Used → Result Finding WalkFault
  conclude k us = settle k us (all_copy (captures_in us))

  module _ (preset : Option Kind) where
    abbrev pub narrow_all : Option (List Used) → Result Finding WalkFault
    narrow_all None = Err NotAnalysed
    narrow_all (Some us) = conclude (kind_or preset us) (map (before_dereference moves) us)

    abbrev pub find_from : List Used × Result (Unit {0}) WalkFault → Result Finding WalkFault
    find_from (us, Err f) = Err f
    find_from (us, Ok u) = narrow_all (each reach_use us)

    -- what is found with a use table of so many rows
    abbrev pub finding : ℕ → Result Finding WalkFault
    finding rows = find_from (play rows (uses_of s) [])
