-- How a match uses the place that it looks at: the highest mode that its patterns ask for.
use Rattle.std.specs.Prelude.{ℕ, Bool, true, false, cond, ◌||◌, List, [], ◌∷◌, length, Some, None, Ok, Err, Option, Result, ◌==◌, nat_lt}
use Rattle.node.specs.declared.nodes.BindBy.{BindBy}
use Rattle.node.specs.declared.nodes.BindBy.TheVariants as by
use Rattle.node.specs.declared.nodes.VariantSort.{VariantSort}
use Rattle.node.specs.declared.nodes.VariantSort.TheVariants as sort
use Rattle.node.specs.Nodes.{PatForm, wild, bind, tuple, or, variant, reading, ref_pat, box_pat, local_path, expression}
use Rattle.body.specs.Answers.{BindingAt, binding_in}
use Rattle.scale.specs.declared.modes.Mode.{Mode}
use Rattle.scale.specs.declared.modes.Mode.TheVariants.{Imm, Unique, Move}
use Rattle.scale.specs.Modes.{mode_leq}
use Rattle.world.specs.declared.shapes.Shape.{Shape}
use Rattle.world.specs.declared.shapes.Shape.TheVariants as shape
use Rattle.scene.specs.declared.faults.WalkFault.{WalkFault}
use Rattle.scene.specs.declared.faults.WalkFault.TheVariants.{NotAnalysed}
use Rattle.scene.specs.Parts.{pat_at, sub_pats}
use Rattle.scene.specs.Recursion.{by_number}
use Rattle.scene.specs.Scenes.{Setting}

-- a closure type goes by the closure, as its captures say; a number outside the body counts as Copy
abbrev pub copies_by : Setting → ℕ → Shape → Option Bool
copies_by s t shape.Error = Some (s.means.copies t)
copies_by s t shape.Other = Some (s.means.copies t)
copies_by s t shape.Shared = Some (s.means.copies t)
copies_by s t shape.Mutable = Some (s.means.copies t)
copies_by s t shape.Raw = Some (s.means.copies t)
copies_by s t shape.Boxed = Some (s.means.copies t)
copies_by s t shape.Union = Some (s.means.copies t)
copies_by s t shape.Tuple = Some (s.means.copies t)
copies_by s t shape.Struct = Some (s.means.copies t)
copies_by s t (shape.Closure k) = cond (k == 0 || nat_lt (length s.body.closures) k) (Some true) (s.told.copied k)

-- whether a type is Copy; none of a closure that is not analysed
abbrev pub type_copies : Setting → ℕ → Option Bool
type_copies s t = copies_by s t (s.means.shape t)

abbrev pub type_or : ℕ → Option BindingAt → ℕ
type_or t None = t
type_or t (Some b) = b.type

-- a number that is no binding has the error type
abbrev pub binding_type : Setting → ℕ → ℕ
binding_type s b = type_or s.means.error (binding_in s.body b)

-- the mode asked for so far, or a refusal
abbrev pub Asked : Type 0
Asked = Result (Option Mode) WalkFault

abbrev pub higher : Option Mode → Mode → Option Mode
higher None m = Some m
higher (Some x) m = Some (cond (mode_leq x m) m x)

-- a binding by move reads what is Copy and moves what is not
abbrev pub asks_move : Option Bool → Option Mode → Asked
asks_move None so_far = Err NotAnalysed
asks_move (Some true) so_far = Ok (higher so_far Imm)
asks_move (Some false) so_far = Ok (higher so_far Move)

abbrev pub asks_bind : Setting → ℕ → BindBy → Mode → Option Mode → Asked
asks_bind s b by.Move for_mut so_far = asks_move (type_copies s (binding_type s b)) so_far
asks_bind s b by.Ref for_mut so_far = Ok (higher so_far Imm)
asks_bind s b by.RefMut for_mut so_far = Ok (higher so_far for_mut)

-- one of several variants is told by reading
abbrev pub asks_variant : VariantSort → Option Mode → Asked
asks_variant sort.Struct so_far = Ok so_far
asks_variant sort.Enum so_far = Ok (higher so_far Imm)
asks_variant sort.OneVariant so_far = Ok so_far
asks_variant sort.Union so_far = Ok so_far
asks_variant sort.Unresolved so_far = Ok so_far

-- what a pattern asks for itself, where `ref mut` asks for the mode for_mut
abbrev pub asks : Setting → PatForm → Mode → Option Mode → Asked
asks s wild for_mut so_far = Ok so_far
asks s (bind b how p) for_mut so_far = asks_bind s b how for_mut so_far
asks s (tuple fs) for_mut so_far = Ok so_far
asks s (or ps) for_mut so_far = Ok so_far
asks s (variant v fs) for_mut so_far = asks_variant v so_far
asks s (reading ps) for_mut so_far = Ok (higher so_far Imm)
asks s (ref_pat p) for_mut so_far = Ok so_far
asks s (box_pat p) for_mut so_far = Ok so_far
asks s (local_path b) for_mut so_far = Ok (higher so_far Imm)
asks s (expression e) for_mut so_far = Ok so_far

abbrev pub ask_on : Asked → (Option Mode → Asked) → Asked
ask_on (Err f) k = Err f
ask_on (Ok so_far) k = k so_far

abbrev pub ask_each : (ℕ → Mode → Option Mode → Asked) → List ℕ → Mode → Option Mode → Asked
ask_each ask [] for_mut so_far = Ok so_far
ask_each ask (p ∷ ps) for_mut so_far = ask_on (ask p for_mut so_far) (ask_each ask ps for_mut)

-- behind a pattern's own implicit dereferences `ref mut` asks for a unique borrow
abbrev pub mut_behind : ℕ → Mode → Mode
mut_behind implicit for_mut = cond (implicit == 0) for_mut Unique

module _ (s : Setting) where
  abbrev pub walk_pat_step : ℕ → (ℕ → Mode → Option Mode → Asked) → Mode → Option Mode → Asked
  walk_pat_step p ask for_mut so_far =
      ask_on (asks s (pat_at s.body p).form for_mut so_far) (ask_each ask (sub_pats (pat_at s.body p).form) (mut_behind (pat_at s.body p).implicit for_mut))

  -- a pattern asks first, then the patterns inside it in their order
  unfoldable pub walk_pat : ℕ → Mode → Option Mode → Asked
  walk_pat = by_number (λ for_mut so_far. Ok so_far) walk_pat_step
