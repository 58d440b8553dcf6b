-- The nodes of a body as the walk asks for them: an expression, a pattern, and the patterns inside a pattern.
use Rattle.std.specs.Prelude.{ℕ, ◌-◌, cond, List, [], ◌∷◌, map, length, Some, None, Option, ◌==◌, slice_index_or}
use Rattle.node.specs.declared.lists.FieldPat.{FieldPat}
use Rattle.node.specs.declared.nodes.ExprNode.{ExprNode}
use Rattle.node.specs.declared.nodes.PatNode.{PatNode}
use Rattle.node.specs.Lists.{adjustments, no_adjustment, pairs}
use Rattle.node.specs.Nodes.{ExprAt, leaf, PatAt, PatForm, wild, bind, tuple, or, variant, reading, ref_pat, box_pat, local_path, expression, NodeAt, an_expr, a_pat, view_expr, view_pat}
use Rattle.reader.specs.Numbers.{numbers}
use Rattle.scene.specs.declared.nodes.SubPats.{SubPats}
use Rattle.scene.specs.declared.nodes.SubPats.TheVariants as subs
use Rattle.indexing.specs.Opening.{Draft}
use Rattle.body.specs.Answers.{node_in}

-- a number that is no expression counts as one that visits nothing
abbrev pub as_expr : Option NodeAt → ExprAt
as_expr None = record { home = 0; type = 0; adjusts = []; form = leaf }
as_expr (Some (an_expr e)) = e
as_expr (Some (a_pat p)) = record { home = 0; type = 0; adjusts = []; form = leaf }

abbrev pub expr_at : Draft → ℕ → ExprAt
expr_at d n = as_expr (node_in d n)

-- and one that is no pattern as the pattern that binds nothing
abbrev pub as_pat : Option NodeAt → PatAt
as_pat None = record { home = 0; implicit = 0; form = wild }
as_pat (Some (an_expr e)) = record { home = 0; implicit = 0; form = wild }
as_pat (Some (a_pat p)) = p

abbrev pub pat_at : Draft → ℕ → PatAt
pat_at d n = as_pat (node_in d n)

-- the type of an expression after its adjustments: the last one's target
abbrev pub adjusted_type : ExprAt → ℕ
adjusted_type e = cond (length e.adjusts == 0) e.type (slice_index_or e.adjusts (length e.adjusts - 1) no_adjustment).target

-- the patterns directly inside a pattern, in the order of its operands
abbrev pub sub_pats : PatForm → List ℕ
sub_pats wild = []
sub_pats (bind b h s) = cond (s == 0) [] (s ∷ [])
sub_pats (tuple fs) = map (λ (f : FieldPat). f.pat) fs
sub_pats (or ps) = ps
sub_pats (variant v fs) = map (λ (f : FieldPat). f.pat) fs
sub_pats (reading ps) = ps
sub_pats (ref_pat p) = p ∷ []
sub_pats (box_pat p) = p ∷ []
sub_pats (local_path b) = []
sub_pats (expression e) = []

-- what the values of the code say
abbrev pub view_expr_node : ExprNode → ExprAt
view_expr_node e = record { home = e.home; type = e.ty; adjusts = adjustments e.adjustments.bytes.now; form = view_expr e.expr }

abbrev pub view_pat_node : PatNode → PatAt
view_pat_node p = record { home = p.home; implicit = p.implicit; form = view_pat p.pat }

abbrev pub view_subs : SubPats → List ℕ
view_subs (subs.AtMostOne None) = []
view_subs (subs.AtMostOne (Some p)) = p ∷ []
view_subs (subs.Listed ps) = numbers ps.bytes.now
view_subs (subs.Named fs) = map (λ (f : FieldPat). f.pat) (pairs (numbers fs.bytes.now))
