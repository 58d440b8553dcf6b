-- What an opened body answers. Types, bindings, nodes and closures are numbered from 1.
use Rattle.std.specs.Prelude.{ℕ, zero, suc, ◌<◌, Bool, false, cond, ◌||◌, List, length, Some, None, Option, ◌==◌}
use Rattle.std.specs.Option.{option_map}
use Rattle.reader.specs.declared.types.TypeRecord.{TypeRecord}
use Rattle.reader.specs.Numbers.{numbered}
use Rattle.reader.specs.Types.{TypeRow, view_type}
use Rattle.node.specs.declared.nodes.Node.{Node}
use Rattle.node.specs.Nodes.{ExprForm, leaf, name, run, let_statement, field, deref, ref, op_assign, assign, match_on, let_in, index, closure, NodeAt, an_expr, a_pat, view_node}
use Rattle.body.specs.declared.bodies.Binding.{Binding}
use Rattle.body.specs.declared.bodies.ClosureNode.{ClosureNode}
use Rattle.indexing.specs.Opening.{Draft, TypeEntry, BindingEntry, NodeEntry}

abbrev pub type_in : Draft → ℕ → Option TypeRow
type_in d n = option_map (λ (e : TypeEntry). e.type) (numbered d.types n)

-- a binding as the rules see it: its type, its owner (0: none) and its name
pub record BindingAt : Type 0 where
  pub type : ℕ
  pub owner : ℕ
  pub name : List ℕ

abbrev pub bound : BindingEntry → BindingAt
bound e = record { type = e.type; owner = e.owner; name = e.name }

abbrev pub binding_in : Draft → ℕ → Option BindingAt
binding_in d n = option_map bound (numbered d.bindings n)

abbrev pub node_in : Draft → ℕ → Option NodeAt
node_in d n = option_map (λ (e : NodeEntry). e.node) (numbered d.nodes n)

-- the closure that a node is: its node, its body, its clause and its home
abbrev pub closure_form : ℕ → ℕ → ExprForm → Option ClosureNode
closure_form n h leaf = None
closure_form n h (name b) = None
closure_form n h (run es) = None
closure_form n h (let_statement p i o) = None
closure_form n h (field e s) = None
closure_form n h (deref e r) = None
closure_form n h (ref e m) = None
closure_form n h (op_assign e v) = None
closure_form n h (assign p v) = None
closure_form n h (match_on e as') = None
closure_form n h (let_in p v) = None
closure_form n h (index e i) = None
closure_form n h (closure e m) = Some (record { node = n; body = e; by_move = m; home = h })

abbrev pub closure_at : ℕ → Option NodeAt → Option ClosureNode
closure_at n None = None
closure_at n (Some (an_expr e)) = closure_form n e.home e.form
closure_at n (Some (a_pat p)) = None

abbrev pub closure_of : Draft → Option ℕ → Option ClosureNode
closure_of d None = None
closure_of d (Some n) = closure_at n (node_in d n)

abbrev pub closure_in : Draft → ℕ → Option ClosureNode
closure_in d k = closure_of d (numbered d.closures k)

abbrev pub home_or : Option ClosureNode → ℕ
home_or None = 0
home_or (Some c) = c.home

-- the closure directly around a closure, 0 where there is none
abbrev pub home_in : Draft → ℕ → ℕ
home_in d k = home_or (closure_in d k)

-- a closure has a lower number than the one around it
abbrev pub HomesRise : Draft → Type 0
HomesRise d = (k : ℕ) → 0 < home_in d k → k < home_in d k

-- from a closure outward: one that is at home there, or around that home; homes rise, so there are at most so many
abbrev pub outward : ℕ → Draft → ℕ → ℕ → Bool
outward zero d outer home = false
outward (suc n) d outer home = cond (home == 0) false (home == outer || outward n d outer (home_in d home))

-- a closure lies properly around another if it is its home, or lies properly around its home
abbrev pub lies_around : Draft → ℕ → ℕ → Bool
lies_around d outer inner = outward (length d.closures) d outer (home_in d inner)

abbrev pub owned_out : Draft → Option BindingAt → ℕ → Bool
owned_out d None k = false
owned_out d (Some b) k = b.owner == 0 || lies_around d b.owner k

-- a binding is an upvar of a closure when its owner is none or a closure properly around it
abbrev pub is_upvar : Draft → ℕ → ℕ → Bool
is_upvar d b k = owned_out d (binding_in d b) k

-- what the values of the code say
abbrev pub view_types : Option TypeRecord → Option TypeRow
view_types o = option_map view_type o

abbrev pub view_binding : Binding → BindingAt
view_binding b = record { type = b.ty; owner = b.owner; name = b.name.now }

abbrev pub view_bindings : Option Binding → Option BindingAt
view_bindings o = option_map view_binding o

abbrev pub view_nodes : Option Node → Option NodeAt
view_nodes o = option_map view_node o
