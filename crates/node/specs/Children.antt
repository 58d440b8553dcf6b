-- The operands of a node, by what each names: nodes, bindings and steps.
use Rattle.std.specs.Prelude.{List, [], ◌∷◌, map}
use Rattle.reader.specs.declared.class.Sort.TheVariants.{Expr, MaybeExpr, Pat, MaybePat, Binding, Step}
use Rattle.reader.specs.declared.operands.Operand.{Operand}
use Rattle.reader.specs.Operands.{of_sort}
use Rattle.node.specs.declared.lists.Arm.{Arm}
use Rattle.node.specs.declared.lists.FieldPat.{FieldPat}
use Rattle.node.specs.Nodes.{ExprForm, leaf, name, run, let_statement, field, deref, ref, op_assign, assign, match_on, let_in, index, closure, PatForm, wild, bind, tuple, or, variant, reading, ref_pat, box_pat, local_path, expression, NodeAt, an_expr, a_pat}

abbrev pub in_fields : List FieldPat → List Operand
in_fields [] = []
in_fields (f ∷ fs) = of_sort Step f.step ∷ of_sort Pat f.pat ∷ in_fields fs

abbrev pub in_arms : List Arm → List Operand
in_arms [] = []
in_arms (a ∷ as') = of_sort Pat a.pat ∷ of_sort MaybeExpr a.guard ∷ of_sort Expr a.body ∷ in_arms as'

abbrev pub in_expr : ExprForm → List Operand
in_expr leaf = []
in_expr (name b) = of_sort Binding b ∷ []
in_expr (run es) = map (of_sort Expr) es
in_expr (let_statement p i o) = of_sort Pat p ∷ of_sort MaybeExpr i ∷ of_sort MaybeExpr o ∷ []
in_expr (field e s) = of_sort Expr e ∷ of_sort Step s ∷ []
in_expr (deref e r) = of_sort Expr e ∷ []
in_expr (ref e m) = of_sort Expr e ∷ []
in_expr (op_assign e v) = of_sort Expr e ∷ of_sort Expr v ∷ []
in_expr (assign p v) = of_sort Pat p ∷ of_sort Expr v ∷ []
in_expr (match_on e arms) = of_sort Expr e ∷ in_arms arms
in_expr (let_in p v) = of_sort Pat p ∷ of_sort Expr v ∷ []
in_expr (index e i) = of_sort Expr e ∷ of_sort Expr i ∷ []
in_expr (closure e m) = of_sort Expr e ∷ []

abbrev pub in_pat : PatForm → List Operand
in_pat wild = []
in_pat (bind b h s) = of_sort Binding b ∷ of_sort MaybePat s ∷ []
in_pat (tuple fs) = in_fields fs
in_pat (or ps) = map (of_sort Pat) ps
in_pat (variant v fs) = in_fields fs
in_pat (reading ps) = map (of_sort Pat) ps
in_pat (ref_pat p) = of_sort Pat p ∷ []
in_pat (box_pat p) = of_sort Pat p ∷ []
in_pat (local_path b) = of_sort Binding b ∷ []
in_pat (expression e) = of_sort Expr e ∷ []

abbrev pub in_node : NodeAt → List Operand
in_node (an_expr e) = in_expr e.form
in_node (a_pat p) = in_pat p.form
