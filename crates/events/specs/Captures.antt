-- The uses that a walk records of one place, or of what a match looks at.
use Rattle.std.specs.Prelude.{ℕ, cond, List, [], ◌∷◌, ◌++◌, map, take, Some, None, Ok, Err, Option}
use Rattle.node.specs.declared.lists.Adjust.{Adjust}
use Rattle.node.specs.declared.lists.Adjust.TheVariants as adjust
use Rattle.node.specs.declared.lists.Arm.{Arm}
use Rattle.node.specs.declared.nodes.BindBy.{BindBy}
use Rattle.node.specs.declared.nodes.BindBy.TheVariants as by
use Rattle.body.specs.Answers.{is_upvar}
use Rattle.scale.specs.declared.modes.Mode.{Mode}
use Rattle.scale.specs.declared.modes.Mode.TheVariants.{Imm, Mut, Move}
use Rattle.place.specs.Places.{Spot}
use Rattle.narrow.specs.Narrowing.{Used}
use Rattle.scene.specs.Inner.{Held}
use Rattle.scene.specs.Parts.{expr_at}
use Rattle.scene.specs.Places.{Reach, and_then, apply_adjusts, whole, place_of_expr, place_without_adjust}
use Rattle.scene.specs.Scenes.{Setting}
use Rattle.events.specs.Events.{Event, puts, stops}
use Rattle.events.specs.Matches.{Asked, ask_each, walk_pat}

abbrev pub used : Spot → Mode → ℕ → Used
used p m site = record { binding = p.binding; path = p.path; mode = m; site = site }

-- what is done with a place, where there is one
abbrev pub with_place : Reach → (Spot → List Event) → List Event
with_place (Err f) k = stops f ∷ []
with_place (Ok None) k = []
with_place (Ok (Some p)) k = k p

-- the mode of an adjustment that borrows
abbrev pub borrows : Adjust → Option Mode
borrows adjust.Never = None
borrows adjust.BuiltinDeref = None
borrows adjust.OverloadedShared = Some Imm
borrows adjust.OverloadedMut = Some Mut
borrows adjust.BorrowShared = Some Imm
borrows adjust.BorrowMut = Some Mut
borrows adjust.PointerCast = None

module _ (s : Setting) where
  -- only uses of upvars are recorded
  abbrev pub add_capture : Spot → Mode → ℕ → List Event
  add_capture p m site = cond (is_upvar s.body p.binding s.closure) (puts (used p m site) ∷ []) []

  abbrev pub consume_place : Spot → ℕ → List Event
  consume_place p site = add_capture p Move site

  abbrev pub place : ℕ → Reach
  place e = place_of_expr s.means s.body e

  -- the use of an expression's place, at the expression
  abbrev pub capture_expr : Mode → ℕ → List Event
  capture_expr m e = with_place (place e) (λ p. add_capture p m e)

  abbrev pub use_matched : Asked → Spot → ℕ → List Event
  use_matched (Err f) p e = stops f ∷ []
  use_matched (Ok None) p e = []
  use_matched (Ok (Some m)) p e = puts (used p m e) ∷ []

  -- one use of the whole place, if it is an upvar's and the patterns ask for any
  abbrev pub match_place : ℕ → List Arm → Spot → List Event
  match_place e arms p = cond (is_upvar s.body p.binding s.closure) (use_matched (ask_each (walk_pat s) (map (λ (a : Arm). a.pat) arms) Mut None) p e) []

  abbrev pub inner_captures : ℕ → List Held → List Event
  inner_captures n [] = []
  inner_captures n (h ∷ hs) = add_capture h.place h.mode n ++ inner_captures n hs

  abbrev pub consume_bind : ℕ → BindBy → Spot → List Event
  consume_bind n by.Move p = consume_place p n
  consume_bind n by.Ref p = add_capture p Imm n
  consume_bind n by.RefMut p = add_capture p Mut n

  abbrev pub mutate_path : ℕ → ℕ → List Event
  mutate_path n b = add_capture (whole b) Mut n

  -- an adjustment that borrows uses the place with the adjustments before it, of which there are k
  abbrev pub ref_capture_with_adjusts : Option Mode → ℕ → ℕ → List Event
  ref_capture_with_adjusts None n k = []
  ref_capture_with_adjusts (Some m) n k =
      with_place (and_then (place_without_adjust s.means s.body n) (apply_adjusts (take k (expr_at s.body n).adjusts))) (λ p. add_capture p m n)
