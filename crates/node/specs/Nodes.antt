-- Nodes as the rules see them: operands are numbers, and what is a list in the file is a list here.
use Rattle.std.specs.Prelude.{ℕ, ◌*◌, Bool, true, false, cond, List, take, drop, Some, None, Option, ◌==◌}
use Rattle.reader.specs.declared.class.Class.{Class}
use Rattle.reader.specs.declared.class.Class.TheVariants as class
use Rattle.reader.specs.Classes.{class_of, is_expression}
use Rattle.reader.specs.Numbers.{numbers}
use Rattle.reader.specs.Payloads.{operand_bytes}
use Rattle.reader.specs.Pieces.{byte_at, number_at}
use Rattle.node.specs.declared.lists.Adjustment.{Adjustment}
use Rattle.node.specs.declared.lists.FieldPat.{FieldPat}
use Rattle.node.specs.declared.lists.Arm.{Arm}
use Rattle.node.specs.declared.nodes.BindBy.{BindBy}
use Rattle.node.specs.declared.nodes.BindBy.TheVariants as by
use Rattle.node.specs.declared.nodes.VariantSort.{VariantSort}
use Rattle.node.specs.declared.nodes.VariantSort.TheVariants as sort
use Rattle.node.specs.declared.nodes.Expr.{Expr}
use Rattle.node.specs.declared.nodes.Expr.TheVariants as expr
use Rattle.node.specs.declared.nodes.Pat.{Pat}
use Rattle.node.specs.declared.nodes.Pat.TheVariants as pat
use Rattle.node.specs.declared.nodes.Node.{Node}
use Rattle.node.specs.declared.nodes.Node.TheVariants as node
use Rattle.node.specs.Lists.{adjustments, pairs, triples}

-- Expressions. e names an expression, p a pattern, b a binding, s a step; what may be missing is then 0.
pub data ExprForm : Type 0 where
  leaf : ExprForm  -- visits nothing
  name : (b : ℕ) → ExprForm
  run : (es : List ℕ) → ExprForm  -- consumes its children in order
  let_statement : (p init other : ℕ) → ExprForm  -- initializer and else branch, each may be missing
  field : (e s : ℕ) → ExprForm
  deref : (e : ℕ) (resolved : Bool) → ExprForm  -- resolved: by a method of the type
  ref : (e : ℕ) (mutable : Bool) → ExprForm
  op_assign : (e value : ℕ) → ExprForm
  assign : (p value : ℕ) → ExprForm
  match_on : (e : ℕ) (arms : List Arm) → ExprForm
  let_in : (p value : ℕ) → ExprForm
  index : (e at : ℕ) → ExprForm
  closure : (e : ℕ) (by_move : Bool) → ExprForm

pub data PatForm : Type 0 where
  wild : PatForm
  bind : (b : ℕ) (how : BindBy) (sub : ℕ) → PatForm  -- the subpattern may be missing
  tuple : (fields : List FieldPat) → PatForm
  or : (ps : List ℕ) → PatForm
  variant : VariantSort → (fields : List FieldPat) → PatForm
  reading : (ps : List ℕ) → PatForm  -- reads the place: ranges, slices, constants, literals
  ref_pat : (p : ℕ) → PatForm
  box_pat : (p : ℕ) → PatForm
  local_path : (b : ℕ) → PatForm
  expression : (e : ℕ) → PatForm

-- an expression with the closure directly around it (0: none), its type before adjustments, and these
pub record ExprAt : Type 0 where
  pub home : ℕ
  pub type : ℕ
  pub adjusts : List Adjustment
  pub form : ExprForm

-- a pattern with the closure directly around it, and how many references it looks through of itself
pub record PatAt : Type 0 where
  pub home : ℕ
  pub implicit : ℕ
  pub form : PatForm

pub data NodeAt : Type 0 where
  an_expr : ExprAt → NodeAt
  a_pat : PatAt → NodeAt

abbrev pub bind_by : ℕ → BindBy
bind_by f = cond (f == 0) by.Move (cond (f == 1) by.Ref by.RefMut)

abbrev pub variant_sort : ℕ → VariantSort
variant_sort f = cond (f == 0) sort.Struct (cond (f == 1) sort.Enum (cond (f == 2) sort.OneVariant (cond (f == 3) sort.Union sort.Unresolved)))

-- an expression of a class, from the bytes of its operands
abbrev pub expr_of : Class → List ℕ → ExprForm
expr_of class.Leaf bs = leaf
expr_of class.Name bs = name (number_at bs 0)
expr_of class.Run bs = run (numbers bs)
expr_of class.LetStatement bs = let_statement (number_at bs 0) (number_at bs 2) (number_at bs 4)
expr_of class.Field bs = field (number_at bs 0) (number_at bs 2)
expr_of class.Deref bs = deref (number_at bs 0) (byte_at bs 2 == 1)
expr_of class.Ref bs = ref (number_at bs 0) (byte_at bs 2 == 1)
expr_of class.OpAssign bs = op_assign (number_at bs 0) (number_at bs 2)
expr_of class.Assign bs = assign (number_at bs 0) (number_at bs 2)
expr_of class.Match bs = match_on (number_at bs 0) (triples (numbers (drop 2 bs)))
expr_of class.Let bs = let_in (number_at bs 0) (number_at bs 2)
expr_of class.Index bs = index (number_at bs 0) (number_at bs 2)
expr_of class.Closure bs = closure (number_at bs 0) (byte_at bs 2 == 1)
expr_of class.Wild bs = leaf
expr_of class.Bind bs = leaf
expr_of class.Tuple bs = leaf
expr_of class.Or bs = leaf
expr_of class.Variant bs = leaf
expr_of class.Reading bs = leaf
expr_of class.RefPat bs = leaf
expr_of class.BoxPat bs = leaf
expr_of class.LocalPath bs = leaf
expr_of class.Expression bs = leaf

-- a pattern of a class, likewise
abbrev pub pat_of : Class → List ℕ → PatForm
pat_of class.Leaf bs = wild
pat_of class.Name bs = wild
pat_of class.Run bs = wild
pat_of class.LetStatement bs = wild
pat_of class.Field bs = wild
pat_of class.Deref bs = wild
pat_of class.Ref bs = wild
pat_of class.OpAssign bs = wild
pat_of class.Assign bs = wild
pat_of class.Match bs = wild
pat_of class.Let bs = wild
pat_of class.Index bs = wild
pat_of class.Closure bs = wild
pat_of class.Wild bs = wild
pat_of class.Bind bs = bind (number_at bs 0) (bind_by (byte_at bs 2)) (number_at bs 3)
pat_of class.Tuple bs = tuple (pairs (numbers bs))
pat_of class.Or bs = or (numbers bs)
pat_of class.Variant bs = variant (variant_sort (byte_at bs 0)) (pairs (numbers (drop 1 bs)))
pat_of class.Reading bs = reading (numbers bs)
pat_of class.RefPat bs = ref_pat (number_at bs 0)
pat_of class.BoxPat bs = box_pat (number_at bs 0)
pat_of class.LocalPath bs = local_path (number_at bs 0)
pat_of class.Expression bs = expression (number_at bs 0)

-- an unknown class byte, which no opened body has, counts as a leaf
abbrev pub class_or_leaf : Option Class → Class
class_or_leaf None = class.Leaf
class_or_leaf (Some c) = c

abbrev pub class_at : List ℕ → Class
class_at p = class_or_leaf (class_of (byte_at p 1))

-- A node of a payload: home and class, then type and adjustments, or implicit dereferences; then the operands.
abbrev pub node_by : Bool → Class → List ℕ → NodeAt
node_by true c p = an_expr (record { home = byte_at p 0; type = number_at p 2; adjusts = adjustments (take (3 * byte_at p 4) (drop 5 p)); form = expr_of c (operand_bytes c p) })
node_by false c p = a_pat (record { home = byte_at p 0; implicit = byte_at p 2; form = pat_of c (operand_bytes c p) })

abbrev pub node_as : Class → List ℕ → NodeAt
node_as c p = node_by (is_expression c) c p

abbrev pub node_of : List ℕ → NodeAt
node_of p = node_as (class_at p) p

-- what the values of the code say
abbrev pub view_expr : Expr → ExprForm
view_expr expr.Leaf = leaf
view_expr (expr.Name b) = name b
view_expr (expr.Run es) = run (numbers es.bytes.now)
view_expr (expr.LetStatement p i o) = let_statement p i o
view_expr (expr.Field e s) = field e s
view_expr (expr.Deref e r) = deref e r
view_expr (expr.Ref e m) = ref e m
view_expr (expr.OpAssign e v) = op_assign e v
view_expr (expr.Assign p v) = assign p v
view_expr (expr.Match e arms) = match_on e (triples (numbers arms.bytes.now))
view_expr (expr.Let p v) = let_in p v
view_expr (expr.Index e i) = index e i
view_expr (expr.Closure e m) = closure e m

abbrev pub view_pat : Pat → PatForm
view_pat pat.Wild = wild
view_pat (pat.Bind b h s) = bind b h s
view_pat (pat.Tuple fs) = tuple (pairs (numbers fs.bytes.now))
view_pat (pat.Or ps) = or (numbers ps.bytes.now)
view_pat (pat.Variant v fs) = variant v (pairs (numbers fs.bytes.now))
view_pat (pat.Reading ps) = reading (numbers ps.bytes.now)
view_pat (pat.Ref p) = ref_pat p
view_pat (pat.Boxed p) = box_pat p
view_pat (pat.LocalPath b) = local_path b
view_pat (pat.Expression e) = expression e

abbrev pub view_node : Node → NodeAt
view_node (node.Expr e) = an_expr (record { home = e.home; type = e.ty; adjusts = adjustments e.adjustments.bytes.now; form = view_expr e.expr })
view_node (node.Pat p) = a_pat (record { home = p.home; implicit = p.implicit; form = view_pat p.pat })
