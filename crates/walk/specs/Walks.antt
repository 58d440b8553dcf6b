-- The walk of a closure's body: the uses that it records and the refusals that it meets, in order.
use Rattle.std.specs.Prelude.{ℕ, zero, suc, Bool, true, false, cond, List, [], ◌∷◌, ◌++◌, length, Some, None, Ok, Err, Option, ◌==◌, slice_index_or}
use Rattle.node.specs.declared.lists.Arm.{Arm}
use Rattle.node.specs.declared.lists.FieldPat.{FieldPat}
use Rattle.node.specs.declared.nodes.VariantSort.{VariantSort}
use Rattle.node.specs.declared.nodes.VariantSort.TheVariants as sort
use Rattle.node.specs.Lists.{no_adjustment}
use Rattle.node.specs.Nodes.{ExprForm, leaf, name, run, let_statement, field, deref, ref, op_assign, assign, match_on, let_in, index, closure, PatForm, wild, bind, tuple, or, variant, reading, ref_pat, box_pat, local_path, expression}
use Rattle.body.specs.declared.bodies.ClosureNode.{ClosureNode}
use Rattle.body.specs.Answers.{closure_in}
use Rattle.scale.specs.declared.modes.Mode.{Mode}
use Rattle.scale.specs.declared.modes.Mode.TheVariants.{Imm, Mut, Move}
use Rattle.world.specs.declared.shapes.Shape.{Shape}
use Rattle.world.specs.declared.shapes.Shape.TheVariants as shape
use Rattle.place.specs.Places.{Spot}
use Rattle.events.specs.Captures.{with_place, borrows, consume_place, place, capture_expr, match_place, inner_captures, consume_bind, mutate_path, ref_capture_with_adjusts}
use Rattle.events.specs.Events.{Event, stops}
use Rattle.scene.specs.Parts.{expr_at, pat_at, adjusted_type, sub_pats}
use Rattle.scene.specs.Places.{Reach, step_on, field_on, derefs_on}
use Rattle.scene.specs.Recursion.{by_number}
use Rattle.scene.specs.Scenes.{Setting}

-- what is done, of the assignment mark: whether the pattern that is walked stands on the left of an assignment
abbrev pub Marked : Type 0
Marked = Bool → List Event

-- What a node does: walked as an expression; as a pattern that takes a place; as a pattern on the left of an assignment
-- whose value has no place.
pub record Doing : Type 0 where
  pub walked : Marked
  pub consumed : Spot → Marked
  pub assigned : Marked

abbrev pub idle : Doing
idle = record { walked = λ i. []; consumed = λ p i. []; assigned = λ i. [] }

module _ (s : Setting) where
  -- Expressions, of what their children do.
  module _ (does : ℕ → Doing) where
    -- an expression, with its place by a mode
    abbrev pub use_expr : Mode → ℕ → Marked
    use_expr m e i = capture_expr s m e ++ (does e).walked i

    abbrev pub consume_expr : ℕ → Marked
    consume_expr = use_expr Move

    abbrev pub ref_expr : ℕ → Marked
    ref_expr = use_expr Imm

    abbrev pub mutate_expr : ℕ → Marked
    mutate_expr = use_expr Mut

    abbrev pub consume_exprs : List ℕ → Marked
    consume_exprs [] i = []
    consume_exprs (e ∷ es) i = consume_expr e i ++ consume_exprs es i

    -- a pattern takes the place of a value, where there is one
    abbrev pub bind_place : ℕ → ℕ → Marked
    bind_place p v i = with_place (place s v) (λ q. (does p).consumed q i)

    -- the else branch first; with one, the initializer is consumed and not only walked
    abbrev pub let_value : (v other : ℕ) → Marked
    let_value v other i = cond (other == 0) ((does v).walked i) (consume_expr v i)

    abbrev pub walk_let_statement : (p v other : ℕ) → Marked
    walk_let_statement p v other i = cond (other == 0) [] (consume_expr other i) ++ cond (v == 0) [] (let_value v other i ++ bind_place p v i)

    -- a dereference by a method, of the type that its child is adjusted to
    abbrev pub deref_by_method : Shape → ℕ → Marked
    deref_by_method shape.Error e i = []
    deref_by_method shape.Other e i = []
    deref_by_method shape.Shared e i = ref_expr e i
    deref_by_method shape.Mutable e i = mutate_expr e i
    deref_by_method shape.Raw e i = (does e).walked i
    deref_by_method shape.Boxed e i = []
    deref_by_method shape.Union e i = []
    deref_by_method shape.Tuple e i = []
    deref_by_method shape.Struct e i = []
    deref_by_method (shape.Closure k) e i = []

    -- with no place on the right, what is assigned to is only mutated
    abbrev pub assign_from : Reach → ℕ → Marked
    assign_from (Err f) p i = stops f ∷ []
    assign_from (Ok None) p i = (does p).assigned i
    assign_from (Ok (Some q)) p i = (does p).consumed q true

    abbrev pub walk_arms : List Arm → Marked
    walk_arms [] i = []
    walk_arms (a ∷ as') i = consume_expr a.body i ++ (cond (a.guard == 0) [] (consume_expr a.guard i) ++ walk_arms as' i)

    -- an expression n without its adjustments; the number of a closure is the home of its body
    abbrev pub walk_form : ℕ → ExprForm → Marked
    walk_form n leaf i = []
    walk_form n (name b) i = []
    walk_form n (run es) i = consume_exprs es i
    walk_form n (let_statement p v other) i = walk_let_statement p v other i
    walk_form n (field e t) i = (does e).walked i
    walk_form n (deref e resolved) i = cond resolved (deref_by_method (s.means.shape (adjusted_type (expr_at s.body e))) e i) ((does e).walked i)
    walk_form n (ref e mutable) i = cond mutable (mutate_expr e i) (ref_expr e i)
    walk_form n (op_assign e v) i = mutate_expr e i ++ consume_expr v i
    walk_form n (assign p v) i = (does v).walked i ++ assign_from (place s v) p i
    walk_form n (match_on e arms) i = walk_arms arms i ++ ((does e).walked i ++ with_place (place s e) (match_place s e arms))
    walk_form n (let_in p v) i = (does v).walked i ++ bind_place p v i
    walk_form n (index e at) i = (does e).walked i ++ consume_expr at i
    walk_form n (closure e m) i = inner_captures s n (s.told.captured (expr_at s.body e).home)

    -- Patterns that take a place.
    abbrev pub consume_fields : Spot → List FieldPat → Marked
    consume_fields p [] i = []
    consume_fields p (f ∷ fs) i = with_place (field_on p f.step) (λ q. (does f.pat).consumed q i) ++ consume_fields p fs i

    abbrev pub consume_pats : Spot → List ℕ → Marked
    consume_pats p [] i = []
    consume_pats p (x ∷ xs) i = (does x).consumed p i ++ consume_pats p xs i

    -- variants of enums and unions take the whole place
    abbrev pub consume_variant : ℕ → VariantSort → List FieldPat → Spot → Marked
    consume_variant n sort.Struct fs p i = consume_fields p fs i
    consume_variant n sort.Enum fs p i = consume_place s p n
    consume_variant n sort.OneVariant fs p i = consume_place s p n
    consume_variant n sort.Union fs p i = consume_place s p n
    consume_variant n sort.Unresolved fs p i = []

    -- a pattern n behind its implicit dereferences; the expression of an expression pattern is mutated with the mark taken away
    abbrev pub consume_form : ℕ → PatForm → Spot → Marked
    consume_form n wild p i = []
    consume_form n (bind b how x) p i = consume_bind s n how p
    consume_form n (tuple fs) p i = consume_fields p fs i
    consume_form n (or xs) p i = consume_pats p xs i
    consume_form n (variant v fs) p i = consume_variant n v fs p i
    consume_form n (reading xs) p i = consume_place s p n
    consume_form n (ref_pat x) p i = with_place (step_on p 0) (λ q. (does x).consumed q i)
    consume_form n (box_pat x) p i = []
    consume_form n (local_path b) p i = cond i (mutate_path s n b) [] ++ consume_place s p n
    consume_form n (expression e) p i = consume_place s p n ++ mutate_expr e false

    -- Patterns on the left of an assignment whose value has no place.
    abbrev pub assign_form : ℕ → PatForm → Marked
    assign_form n wild i = []
    assign_form n (bind b how x) i = []
    assign_form n (tuple fs) i = []
    assign_form n (or xs) i = []
    assign_form n (variant v fs) i = []
    assign_form n (reading xs) i = []
    assign_form n (ref_pat x) i = []
    assign_form n (box_pat x) i = []
    assign_form n (local_path b) i = mutate_path s n b
    assign_form n (expression e) i = mutate_expr e i

    abbrev pub assign_pats : List ℕ → Marked
    assign_pats [] i = []
    assign_pats (p ∷ ps) i = (does p).assigned i ++ assign_pats ps i

  -- the first k adjustments of an expression, from the last of them, then the expression without them
  abbrev pub walk_with_adjust : ℕ → ℕ → List Event → List Event
  walk_with_adjust n zero es = es
  walk_with_adjust n (suc k) es = ref_capture_with_adjusts s (borrows (slice_index_or (expr_at s.body n).adjusts k no_adjustment).kind) n k ++ walk_with_adjust n k es

  abbrev pub doing_step : ℕ → (ℕ → Doing) → Doing
  doing_step n does = record {
    walked = λ i. walk_with_adjust n (length (expr_at s.body n).adjusts) (walk_form does n (expr_at s.body n).form i);
    consumed = λ p i. with_place (derefs_on (pat_at s.body n).implicit p) (λ q. consume_form does n (pat_at s.body n).form q i);
    assigned = λ i. assign_form does n (pat_at s.body n).form i ++ assign_pats does (sub_pats (pat_at s.body n).form) i;
  }

  unfoldable pub doing : ℕ → Doing
  doing = by_number idle doing_step

  abbrev pub consume_body : Option ClosureNode → List Event
  consume_body None = []
  consume_body (Some c) = consume_expr doing c.body false

  -- what a closure records: its body is consumed; a number that is no closure's records nothing
  abbrev pub uses_of : List Event
  uses_of = consume_body (closure_in s.body s.closure)
