-- The place of an expression: a binding, and a step for each field and dereference from it.
use Rattle.std.specs.Prelude.{ℕ, zero, suc, Bool, true, false, cond, List, [], ◌∷◌, Some, None, Ok, Err, Option, Result, ◌==◌}
use Rattle.std.specs.Option.{option_map}
use Rattle.node.specs.declared.lists.Adjust.{Adjust}
use Rattle.node.specs.declared.lists.Adjust.TheVariants as adjust
use Rattle.node.specs.declared.lists.Adjustment.{Adjustment}
use Rattle.node.specs.Nodes.{ExprForm, leaf, name, run, let_statement, field, deref, ref, op_assign, assign, match_on, let_in, index, closure}
use Rattle.indexing.specs.Opening.{Draft}
use Rattle.world.specs.Meaning.{Meaning}
use Rattle.world.specs.declared.shapes.Shape.{Shape}
use Rattle.world.specs.declared.shapes.Shape.TheVariants as shape
use Rattle.place.specs.declared.places.Place.{Place}
use Rattle.place.specs.Places.{Spot, spot, spot_extended}
use Rattle.scene.specs.declared.faults.WalkFault.{WalkFault}
use Rattle.scene.specs.declared.faults.WalkFault.TheVariants.{PathTooLong}
use Rattle.scene.specs.Parts.{expr_at}
use Rattle.scene.specs.Recursion.{by_number}

-- a place, no place, or a refusal
abbrev pub Reach : Type 0
Reach = Result (Option Spot) WalkFault

-- what the values of the code say
abbrev pub view_reach : Result (Option Place) WalkFault → Reach
view_reach (Ok p) = Ok (option_map spot p)
view_reach (Err f) = Err f

abbrev pub view_step : Result Place WalkFault → Reach
view_step (Ok p) = Ok (Some (spot p))
view_step (Err f) = Err f

-- what comes of a place, where there is one
abbrev pub and_then : Reach → (Spot → Reach) → Reach
and_then (Err f) k = Err f
and_then (Ok None) k = Ok None
and_then (Ok (Some p)) k = k p

abbrev pub or_too_long : Option Spot → Reach
or_too_long None = Err PathTooLong
or_too_long (Some p) = Ok (Some p)

-- the place one step on; a path that has 16 steps takes no more
abbrev pub step_on : Spot → ℕ → Reach
step_on p s = or_too_long (spot_extended p s)

-- the place a field on, where 65,535 is the step of no field
abbrev pub field_on : Spot → ℕ → Reach
field_on p s = cond (s == 65535) (Ok None) (step_on p s)

-- so many dereferences on
abbrev pub derefs_on : ℕ → Spot → Reach
derefs_on zero p = Ok (Some p)
derefs_on (suc n) p = and_then (step_on p 0) (derefs_on n)

-- a built-in dereference keeps the place; every other adjustment takes it away
abbrev pub if_deref : Adjust → Reach → Reach
if_deref adjust.Never r = Ok None
if_deref adjust.BuiltinDeref r = r
if_deref adjust.OverloadedShared r = Ok None
if_deref adjust.OverloadedMut r = Ok None
if_deref adjust.BorrowShared r = Ok None
if_deref adjust.BorrowMut r = Ok None
if_deref adjust.PointerCast r = Ok None

abbrev pub apply_adjusts : List Adjustment → Spot → Reach
apply_adjusts [] p = Ok (Some p)
apply_adjusts (a ∷ as') p = if_deref a.kind (and_then (step_on p 0) (apply_adjusts as'))

-- the types whose dereference is built in: references, raw pointers and boxes
abbrev pub derefs_builtin : Shape → Bool
derefs_builtin shape.Error = false
derefs_builtin shape.Other = false
derefs_builtin shape.Shared = true
derefs_builtin shape.Mutable = true
derefs_builtin shape.Raw = true
derefs_builtin shape.Boxed = true
derefs_builtin shape.Union = false
derefs_builtin shape.Tuple = false
derefs_builtin shape.Struct = false
derefs_builtin (shape.Closure k) = false

-- the place of a binding itself
abbrev pub whole : ℕ → Spot
whole b = record { binding = b; path = [] }

module _ (m : Meaning) (d : Draft) where
  -- before adjustments, of the places of the children; a dereference goes by its child's own type
  abbrev pub place_of_form : (ℕ → Reach) → ExprForm → Reach
  place_of_form place leaf = Ok None
  place_of_form place (name b) = Ok (Some (whole b))
  place_of_form place (run es) = Ok None
  place_of_form place (let_statement p i o) = Ok None
  place_of_form place (field e s) = and_then (place e) (λ p. field_on p s)
  place_of_form place (deref e r) = cond (derefs_builtin (m.shape (expr_at d e).type)) (and_then (place e) (λ p. step_on p 0)) (Ok None)
  place_of_form place (ref e m') = Ok None
  place_of_form place (op_assign e v) = Ok None
  place_of_form place (assign p v) = Ok None
  place_of_form place (match_on e as') = Ok None
  place_of_form place (let_in p v) = Ok None
  place_of_form place (index e i) = Ok None
  place_of_form place (closure e m') = Ok None

  abbrev pub place_step : ℕ → (ℕ → Reach) → Reach
  place_step n place = and_then (place_of_form place (expr_at d n).form) (apply_adjusts (expr_at d n).adjusts)

  unfoldable pub place_of_expr : ℕ → Reach
  place_of_expr = by_number (Ok None) place_step

  -- the place of an expression before its adjustments
  abbrev pub place_without_adjust : ℕ → Reach
  place_without_adjust n = place_of_form place_of_expr (expr_at d n).form
