-- Which nodes a node names: all have lower numbers than its own.
use Rattle.std.specs.Prelude.{ℕ, ◌<◌, List, [], ◌∷◌}
use Rattle.node.specs.declared.lists.Arm.{Arm}
use Rattle.node.specs.declared.lists.FieldPat.{FieldPat}
use Rattle.node.specs.Nodes.{ExprForm, leaf, name, run, let_statement, field, deref, ref, op_assign, assign, match_on, let_in, index, closure, PatForm, wild, bind, tuple, or, variant, reading, ref_pat, box_pat, local_path, expression}

abbrev pub ListBelow : ℕ → List ℕ → Type 0
ListBelow n [] = Unit {0}
ListBelow n (e ∷ es) = (e < n) × ListBelow n es

abbrev pub FieldsBelow : ℕ → List FieldPat → Type 0
FieldsBelow n [] = Unit {0}
FieldsBelow n (f ∷ fs) = (f.pat < n) × FieldsBelow n fs

abbrev pub ArmsBelow : ℕ → List Arm → Type 0
ArmsBelow n [] = Unit {0}
ArmsBelow n (a ∷ as') = ((a.pat < n) × (a.guard < n) × (a.body < n)) × ArmsBelow n as'

abbrev pub ExprBelow : ℕ → ExprForm → Type 0
ExprBelow n leaf = Unit {0}
ExprBelow n (name b) = Unit {0}
ExprBelow n (run es) = ListBelow n es
ExprBelow n (let_statement p i o) = (p < n) × (i < n) × (o < n)
ExprBelow n (field e s) = e < n
ExprBelow n (deref e r) = e < n
ExprBelow n (ref e m) = e < n
ExprBelow n (op_assign e v) = (e < n) × (v < n)
ExprBelow n (assign p v) = (p < n) × (v < n)
ExprBelow n (match_on e as') = (e < n) × ArmsBelow n as'
ExprBelow n (let_in p v) = (p < n) × (v < n)
ExprBelow n (index e i) = (e < n) × (i < n)
ExprBelow n (closure e m) = e < n

abbrev pub PatBelow : ℕ → PatForm → Type 0
PatBelow n wild = Unit {0}
PatBelow n (bind b h s) = s < n
PatBelow n (tuple fs) = FieldsBelow n fs
PatBelow n (or ps) = ListBelow n ps
PatBelow n (variant v fs) = FieldsBelow n fs
PatBelow n (reading ps) = ListBelow n ps
PatBelow n (ref_pat p) = p < n
PatBelow n (box_pat p) = p < n
PatBelow n (local_path b) = Unit {0}
PatBelow n (expression e) = e < n
