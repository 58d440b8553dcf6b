-- A record's row, and the body that it is added to.
use Rattle.std.proofs.Common.{◌≡◌, ℕ, ◌+◌, List, [], ◌∷◌, ◌++◌, map, length, take, drop, Some, None, Ok, Err, Option, Result, sym, refl, ap, ◌∙◌, arith}
use Rattle.std.proofs.lemmas.List.{append-nil, append_assoc, map_push, length-map, drop_at, take_at, length-append, length_push}
use Rattle.reader.specs.declared.counts.Counts.{Counts}
use Rattle.reader.specs.declared.payload.Item.{Item}
use Rattle.reader.specs.declared.payload.Item.TheVariants as item
use Rattle.reader.specs.Pieces.{byte_at, number_at}
use Rattle.reader.specs.Types.{type_of}
use Rattle.indexing.specs.declared.faults.BodyFault.{BodyFault}
use Rattle.indexing.specs.declared.rows.Row.{Row}
use Rattle.indexing.specs.Checks.{Entered, enters}
use Rattle.node.specs.Nodes.{node_of}
use Rattle.indexing.specs.Opening.{Draft, TypeEntry, BindingEntry, NodeEntry, type_rows, binding_rows, node_rows, rows_of, add_node, add_as}
use Rattle.indexing.specs.Indexing.{row_as}

-- the body with a record in it, whose row and parents are settled
abbrev pub extended : Item → Draft → List ℕ → Entered → Draft
extended item.«Type» d p x = record { types = d.types ++ record { row = x.row; type = type_of p } ∷ []; bindings = d.bindings; nodes = d.nodes; taken = x.taken; closures = d.closures }
extended item.Binding d p x = record {
  types = d.types;
  bindings = d.bindings ++ record { row = x.row; type = number_at p 0; owner = byte_at p 2; name = drop 3 p } ∷ [];
  nodes = d.nodes;
  taken = x.taken;
  closures = d.closures;
}
extended item.Node d p x = record { types = d.types; bindings = d.bindings; nodes = d.nodes ++ record { row = x.row; node = node_of p } ∷ []; taken = x.taken; closures = d.closures }
extended item.Closure d p x = record {
  types = d.types;
  bindings = d.bindings;
  nodes = d.nodes ++ record { row = x.row; node = node_of p } ∷ [];
  taken = x.taken;
  closures = d.closures ++ (length d.nodes + 1) ∷ [];
}

abbrev pub extends : Item → Draft → List ℕ → Result Entered BodyFault → Result Draft BodyFault
extends i d p (Err e) = Err e
extends i d p (Ok x) = Ok (extended i d p x)

length_types : (d : Draft) → length (type_rows d) ≡ length d.types
length_types d = length-map d.types (λ (e : TypeEntry). e.row)

length_bindings : (d : Draft) → length (binding_rows d) ≡ length d.bindings
length_bindings d = length-map d.bindings (λ (e : BindingEntry). e.row)

pub length_rows : (d : Draft) → length (rows_of d) ≡ length d.types + length d.bindings + length d.nodes
length_rows d = omega (arith, length-append (type_rows d) (binding_rows d ++ node_rows d), length-append (binding_rows d) (node_rows d), length_types d, length_bindings d, length-map d.nodes (λ (e : NodeEntry). e.row))

-- the rows of the nodes and of the bindings in the table
pub nodes_behind : (d : Draft) → drop (length d.types + length d.bindings) (rows_of d) ≡ node_rows d
nodes_behind d =
    ap (λ l. drop (length d.types + length d.bindings) l) (sym (append_assoc (type_rows d) (binding_rows d) (node_rows d)))
    ∙ drop_at (type_rows d ++ binding_rows d) (node_rows d) (length d.types + length d.bindings) (omega (arith, length-append (type_rows d) (binding_rows d), length_types d, length_bindings d))

pub bindings_behind : (d : Draft) → take (length d.bindings) (drop (length d.types) (rows_of d)) ≡ binding_rows d
bindings_behind d =
    ap (take (length d.bindings)) (drop_at (type_rows d) (binding_rows d ++ node_rows d) (length d.types) (length_types d))
    ∙ take_at (binding_rows d) (node_rows d) (length d.bindings) (length_bindings d)

-- how many there are with the record in
abbrev pub Told : Item → Draft → Counts → Type 0
Told item.«Type» d c = (c.types ≡ length d.types + 1) × (c.bindings ≡ length d.bindings) × (c.nodes ≡ length d.nodes) × (c.closures ≡ length d.closures)
Told item.Binding d c = (c.types ≡ length d.types) × (c.bindings ≡ length d.bindings + 1) × (c.nodes ≡ length d.nodes) × (c.closures ≡ length d.closures)
Told item.Node d c = (c.types ≡ length d.types) × (c.bindings ≡ length d.bindings) × (c.nodes ≡ length d.nodes + 1) × (c.closures ≡ length d.closures)
Told item.Closure d c = (c.types ≡ length d.types) × (c.bindings ≡ length d.bindings) × (c.nodes ≡ length d.nodes + 1) × (c.closures ≡ length d.closures + 1)

module _ (d : Draft) (c : Counts) (offset : ℕ) (p : List ℕ) where
  same_enters : (closing closing' : Option ℕ) → closing ≡ closing' → c.types ≡ length d.types → c.bindings ≡ length d.bindings
      → enters (drop (c.types + c.bindings) (rows_of d)) c.bindings d.taken closing offset p ≡ enters (node_rows d) (length d.bindings) d.taken closing' offset p
  same_enters closing closing' k t b =
      let front : drop (c.types + c.bindings) (rows_of d) ≡ node_rows d = ap (λ n. drop n (rows_of d)) (λ i. t i + b i) ∙ nodes_behind d in
      λ i. enters (front i) (b i) d.taken (k i) offset p

  node_extends : (r : Result Entered BodyFault) → extends item.Node d p r ≡ add_node d p None r
  node_extends (Err e) = refl
  node_extends (Ok x) = refl

  closure_extends : (k : ℕ) (r : Result Entered BodyFault) → extends item.Closure d p r ≡ add_node d p (Some k) r
  closure_extends k (Err e) = refl
  closure_extends k (Ok x) = refl

  -- what is added is what the row says
  pub row_extends : (i : Item) → Told i d c → extends i d p (row_as i (rows_of d) c d.taken offset p) ≡ add_as i d offset p
  row_extends item.«Type» t = refl
  row_extends item.Binding t = refl
  row_extends item.Node t = node_extends _ ∙ ap (add_node d p None) (same_enters None None refl t.0 t.1)
  row_extends item.Closure t =
      closure_extends (length d.closures + 1) _ ∙ ap (add_node d p (Some (length d.closures + 1))) (same_enters (Some c.closures) (Some (length d.closures + 1)) (ap Some t.3) t.0 t.1)

-- what comes later is not there yet
abbrev pub Early : Item → Draft → Type 0
Early item.«Type» d = (d.bindings ≡ []) × (d.nodes ≡ [])
Early item.Binding d = d.nodes ≡ []
Early item.Node d = Unit {0}
Early item.Closure d = Unit {0}

module _ (r : Row) where
  first_pushed : (ts bs ns : List Row) → bs ≡ [] → ns ≡ [] → (ts ++ r ∷ []) ++ (bs ++ ns) ≡ (ts ++ (bs ++ ns)) ++ r ∷ []
  first_pushed ts bs ns b n =
      let none : bs ++ ns ≡ [] = λ i. b i ++ n i in
      ap (λ l. (ts ++ r ∷ []) ++ l) none ∙ append-nil (ts ++ r ∷ []) ∙ ap (λ l. l ++ r ∷ []) (sym (append-nil ts) ∙ ap (λ l. ts ++ l) (sym none))

  second_pushed : (ts bs ns : List Row) → ns ≡ [] → ts ++ ((bs ++ r ∷ []) ++ ns) ≡ (ts ++ (bs ++ ns)) ++ r ∷ []
  second_pushed ts bs ns n =
      ap (λ l. ts ++ ((bs ++ r ∷ []) ++ l)) n ∙ ap (λ l. ts ++ l) (append-nil (bs ++ r ∷ [])) ∙ sym (append_assoc ts bs (r ∷ []))
      ∙ ap (λ l. (ts ++ l) ++ r ∷ []) (sym (append-nil bs) ∙ ap (λ l. bs ++ l) (sym n))

  third_pushed : (ts bs ns : List Row) → ts ++ (bs ++ (ns ++ r ∷ [])) ≡ (ts ++ (bs ++ ns)) ++ r ∷ []
  third_pushed ts bs ns = ap (λ l. ts ++ l) (sym (append_assoc bs ns (r ∷ []))) ∙ sym (append_assoc ts (bs ++ ns) (r ∷ []))

-- a record's row comes at the end of the table
pub rows_extended : (i : Item) (d : Draft) (p : List ℕ) (x : Entered) → Early i d → rows_of (extended i d p x) ≡ rows_of d ++ x.row ∷ []
rows_extended item.«Type» d p x e =
    ap (λ l. l ++ (binding_rows d ++ node_rows d)) (map_push (λ (t : TypeEntry). t.row) d.types (record { row = x.row; type = type_of p }))
    ∙ first_pushed x.row (type_rows d) (binding_rows d) (node_rows d) (ap (map (λ (t : BindingEntry). t.row)) e.0) (ap (map (λ (t : NodeEntry). t.row)) e.1)
rows_extended item.Binding d p x e =
    ap (λ l. type_rows d ++ (l ++ node_rows d)) (map_push (λ (t : BindingEntry). t.row) d.bindings (record { row = x.row; type = number_at p 0; owner = byte_at p 2; name = drop 3 p }))
    ∙ second_pushed x.row (type_rows d) (binding_rows d) (node_rows d) (ap (map (λ (t : NodeEntry). t.row)) e)
rows_extended item.Node d p x e =
    ap (λ l. type_rows d ++ (binding_rows d ++ l)) (map_push (λ (t : NodeEntry). t.row) d.nodes (record { row = x.row; node = node_of p }))
    ∙ third_pushed x.row (type_rows d) (binding_rows d) (node_rows d)
rows_extended item.Closure d p x e =
    ap (λ l. type_rows d ++ (binding_rows d ++ l)) (map_push (λ (t : NodeEntry). t.row) d.nodes (record { row = x.row; node = node_of p }))
    ∙ third_pushed x.row (type_rows d) (binding_rows d) (node_rows d)

-- the counts go with the body
pub record Counted (c : Counts) (d : Draft) : Type 0 where
  pub types : c.types ≡ length d.types
  pub bindings : c.bindings ≡ length d.bindings
  pub nodes : c.nodes ≡ length d.nodes
  pub closures : c.closures ≡ length d.closures

pub counted_extended : (i : Item) (d : Draft) (p : List ℕ) (x : Entered) (c : Counts) → Told i d c → Counted c (extended i d p x)
counted_extended item.«Type» d p x c t = record { types = t.0 ∙ sym (length_push d.types _); bindings = t.1; nodes = t.2; closures = t.3 }
counted_extended item.Binding d p x c t = record { types = t.0; bindings = t.1 ∙ sym (length_push d.bindings _); nodes = t.2; closures = t.3 }
counted_extended item.Node d p x c t = record { types = t.0; bindings = t.1; nodes = t.2 ∙ sym (length_push d.nodes _); closures = t.3 }
counted_extended item.Closure d p x c t = record { types = t.0; bindings = t.1; nodes = t.2 ∙ sym (length_push d.nodes _); closures = t.3 ∙ sym (length_push d.closures _) }
