-- The place of an expression, one step at a time.
use Rattle.std.proofs.Common.{◌≡◌, ℕ, zero, suc, ◌+◌, ◌-◌, ◌<◌, cond, List, [], ◌∷◌, take, IsErrAnd, Some, None, Ok, Err, Option, Result, sym, refl, ap, ◌∙◌, add-one, arith}
use Rattle.node.specs.Nodes.{ExprForm, leaf, name, run, let_statement, field, deref, ref, op_assign, assign, match_on, let_in, index, closure}
use Rattle.indexing.specs.Opening.{Draft}
use Rattle.body.specs.Sound.{Sound}
use Rattle.world.specs.Meaning.{Meaning}
use Rattle.place.specs.Places.{Spot}
use Rattle.scene.specs.Below.{ExprBelow}
use Rattle.scene.specs.Parts.{expr_at, view_expr_node}
use Rattle.scene.specs.Places.{Reach, and_then, step_on, field_on, derefs_on, apply_adjusts, derefs_builtin, if_deref, view_reach, place_of_form, place_step, place_of_expr, place_without_adjust}
use Rattle.std.proofs.lemmas.Result.{err_from_is_err_and}
use Rattle.node.specs.declared.lists.Adjust.{Adjust}
use Rattle.node.specs.declared.lists.Adjust.TheVariants as adjust
use Rattle.node.specs.declared.lists.Adjustment.{Adjustment}
use Rattle.node.specs.declared.nodes.ExprNode.{ExprNode}
use Rattle.node.specs.Lists.{adjustments}
use Rattle.node.specs.Nodes.{ExprAt, view_expr}
use Rattle.place.specs.declared.places.Place.{Place}
use Rattle.scene.specs.declared.faults.WalkFault.{WalkFault}
use Rattle.scene.specs.Recursion.{Local}
use Rattle.scene.proofs.Recursing.{number_at}
use Rattle.scene.proofs.Under.{expr_below}

-- the exit of a `?`
pub reach_exit : (r : Result (Option Place) WalkFault) {f : WalkFault} → IsErrAnd r (λ y. y ≡ f) → view_reach r ≡ Err f
reach_exit r e = let p = err_from_is_err_and r e in rw (p.1, p.2)

-- one dereference of several
pub derefs_turn : (count i : ℕ) (p : Spot) (r : Reach) → i < count → r ≡ step_on p 0 → and_then r (derefs_on (count - (i + 1))) ≡ derefs_on (count - i) p
derefs_turn count i p r l e = let n : count - i ≡ suc (count - (i + 1)) = omega arith in rw (n, e)

-- one adjustment of those that are left, of which n are applied
adjust_turn : (as' more : List Adjustment) (a : Adjustment) (n m : ℕ) (p : Spot) → as' ≡ a ∷ more → m + 1 ≡ n
    → apply_adjusts (take n as') p ≡ if_deref a.kind (and_then (step_on p 0) (apply_adjusts (take m more)))
adjust_turn as' more a n m p e l = rw (e, sym l, add-one) refl

pub adjust_on : {as' more : List Adjustment} {a : Adjustment} (n m : ℕ) (p : Spot) {r : Reach} → (as' ≡ a ∷ more) × (m + 1 ≡ n) → a.kind ≡ adjust.BuiltinDeref → r ≡ step_on p 0
    → and_then r (apply_adjusts (take m more)) ≡ apply_adjusts (take n as') p
adjust_on {as'} {more} {a} n m p {r} t k h =
    ap (λ x. and_then x (apply_adjusts (take m more))) h
    ∙ sym (adjust_turn as' more a n m p t.0 t.1 ∙ ap (λ x. if_deref x (and_then (step_on p 0) (apply_adjusts (take m more)))) k)

not_deref : (k : Adjust) (r : Reach) → (k ≡ adjust.BuiltinDeref → ⊥) → Ok None ≡ if_deref k r
not_deref adjust.Never r h = refl
not_deref adjust.BuiltinDeref r h = absurd (h refl)
not_deref adjust.OverloadedShared r h = refl
not_deref adjust.OverloadedMut r h = refl
not_deref adjust.BorrowShared r h = refl
not_deref adjust.BorrowMut r h = refl
not_deref adjust.PointerCast r h = refl

pub adjust_away : {as' more : List Adjustment} {a : Adjustment} (n m : ℕ) (p : Spot) → (as' ≡ a ∷ more) × (m + 1 ≡ n) → (a.kind ≡ adjust.BuiltinDeref → ⊥) → Ok None ≡ apply_adjusts (take n as') p
adjust_away {as'} {more} {a} n m p t h = not_deref a.kind _ h ∙ sym (adjust_turn as' more a n m p t.0 t.1)

pub adjust_end : (as' more : List Adjustment) (n : ℕ) (p : Spot) → (0 < n → (as' ≡ []) × (more ≡ [])) → Ok (Some p) ≡ apply_adjusts (take n as') p
adjust_end as' more zero p h = refl
adjust_end as' more (suc n) p h = rw (h (omega arith)).0 refl

module _ (m : Meaning) (d : Draft) (sound : Sound d) where
  form_local : (n : ℕ) (e f : ℕ → Reach) → ((c : ℕ) → c < n → e c ≡ f c) → (x : ExprForm) → ExprBelow n x → place_of_form m d e x ≡ place_of_form m d f x
  form_local n e f h leaf b = refl
  form_local n e f h (name x) b = refl
  form_local n e f h (run es) b = refl
  form_local n e f h (let_statement p i o) b = refl
  form_local n e f h (field c s) b = ap (λ r. and_then r (λ p. field_on p s)) (h c b)
  form_local n e f h (deref c r) b = ap (λ x. cond (derefs_builtin (m.shape (expr_at d c).type)) (and_then x (λ p. step_on p 0)) (Ok None)) (h c b)
  form_local n e f h (ref c x) b = refl
  form_local n e f h (op_assign c v) b = refl
  form_local n e f h (assign p v) b = refl
  form_local n e f h (match_on c as') b = refl
  form_local n e f h (let_in p v) b = refl
  form_local n e f h (index c i) b = refl
  form_local n e f h (closure c x) b = refl

  step_local : Local (place_step m d)
  step_local n e f h = ap (λ r. and_then r (apply_adjusts (expr_at d n).adjusts)) (form_local n e f h (expr_at d n).form (expr_below d sound n))

  pub place_at : (n : ℕ) → place_of_expr m d n ≡ and_then (place_without_adjust m d n) (apply_adjusts (expr_at d n).adjusts)
  unfolding place_of_expr
  place_at n = number_at (Ok None) (place_step m d) step_local n

  -- from the node as it was read
  pub place_read : (n : ℕ) (x : ExprNode) (r : Reach) → view_expr_node x ≡ expr_at d n → r ≡ place_of_form m d (place_of_expr m d) (view_expr x.expr)
      → and_then r (apply_adjusts (adjustments x.adjustments.bytes.now)) ≡ place_of_expr m d n
  place_read n x r e h =
      ap (λ y. and_then y (apply_adjusts (adjustments x.adjustments.bytes.now))) h
      ∙ ap (λ (y : ExprAt). and_then (place_of_form m d (place_of_expr m d) y.form) (apply_adjusts y.adjusts)) e ∙ sym (place_at n)
