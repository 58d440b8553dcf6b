-- What holds of every body that opens: each node names earlier nodes of the right sort, bindings that there are and good
-- steps, homes fit, and the closures are numbered in the order of their nodes.
use Rattle.std.specs.Prelude.{◌≡◌, ℕ, ◌+◌, Bool, true, false, cond, List, [], ◌∷◌, ◌++◌, map, length, Some, None, Option}
use Rattle.reader.specs.Operands.{any}
use Rattle.node.specs.Children.{in_node}
use Rattle.node.specs.Nodes.{ExprForm, leaf, name, run, let_statement, field, deref, ref, op_assign, assign, match_on, let_in, index, closure, NodeAt, an_expr, a_pat}
use Rattle.indexing.specs.declared.rows.Row.{Row}
use Rattle.indexing.specs.declared.rows.RowSort.{RowSort}
use Rattle.indexing.specs.declared.rows.RowSort.TheVariants as row
use Rattle.indexing.specs.Checks.{bad_operand, home_misfits}
use Rattle.indexing.specs.Opening.{NodeEntry, Draft}

abbrev pub home_of : NodeAt → ℕ
home_of (an_expr e) = e.home
home_of (a_pat p) = p.home

abbrev pub sort_in : NodeAt → RowSort
sort_in (an_expr e) = row.Expr
sort_in (a_pat p) = row.Pat

abbrev pub is_closure_form : ExprForm → Bool
is_closure_form leaf = false
is_closure_form (name b) = false
is_closure_form (run es) = false
is_closure_form (let_statement p i o) = false
is_closure_form (field e s) = false
is_closure_form (deref e r) = false
is_closure_form (ref e m) = false
is_closure_form (op_assign e v) = false
is_closure_form (assign p v) = false
is_closure_form (match_on e as') = false
is_closure_form (let_in p v) = false
is_closure_form (index e i) = false
is_closure_form (closure e m) = true

abbrev pub closes : NodeAt → Bool
closes (an_expr e) = is_closure_form e.form
closes (a_pat p) = false

-- the numbers of the closures among the nodes, of which the first has the number n
abbrev pub closure_numbers : ℕ → List NodeEntry → List ℕ
closure_numbers n [] = []
closure_numbers n (e ∷ es) = cond (closes e.node) (n ∷ closure_numbers (n + 1) es) (closure_numbers (n + 1) es)

-- the number of the closure that a node is, behind the nodes before it
abbrev pub closing : List NodeEntry → NodeAt → Option ℕ
closing before n = cond (closes n) (Some (length (closure_numbers 1 before) + 1)) None

abbrev pub rows_in : List NodeEntry → List Row
rows_in es = map (λ (e : NodeEntry). e.row) es

pub record SoundNode (bindings : ℕ) (before : List NodeEntry) (e : NodeEntry) : Type 0 where
  pub home : e.row.home ≡ home_of e.node
  pub sort : e.row.sort ≡ sort_in e.node
  pub named : any (bad_operand (rows_in before) bindings) (in_node e.node) ≡ false
  pub housed : home_misfits (rows_in before) (home_of e.node) (closing before e.node) (in_node e.node) ≡ false

-- each element of a list has Q of those before it
abbrev pub Behind : {X : Type 0} → (List X → X → Type 0) → List X → List X → Type 0
Behind Q before [] = Unit {0}
Behind Q before (x ∷ xs) = Q before x × Behind Q (before ++ x ∷ []) xs

pub record Sound (d : Draft) : Type 0 where
  pub nodes : Behind (SoundNode (length d.bindings)) [] d.nodes
  pub closures : d.closures ≡ closure_numbers 1 d.nodes
