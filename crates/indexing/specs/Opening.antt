-- Opening a body: records are entered one by one until the file ends or one is refused.
use Rattle.std.specs.Prelude.{ℕ, zero, suc, ◌+◌, Bool, false, cond, not, ◌&&◌, List, [], ◌∷◌, ◌++◌, map, length, drop, replicate, Some, None, Ok, Err, Option, Result, ◌==◌, nat_lt, slice_index_or}
use Rattle.reader.specs.declared.faults.ReaderFault.TheVariants as at_reader
use Rattle.reader.specs.declared.payload.Item.{Item}
use Rattle.reader.specs.declared.payload.Item.TheVariants as item
use Rattle.reader.specs.Pieces.{byte_at, number_at}
use Rattle.reader.specs.Reading.{State, start, Found, Answer, reads}
use Rattle.reader.specs.Types.{TypeRow, type_of}
use Rattle.indexing.specs.declared.faults.BodyFault.{BodyFault}
use Rattle.indexing.specs.declared.faults.BodyFault.TheVariants as fault
use Rattle.indexing.specs.declared.rows.Row.{Row}
use Rattle.indexing.specs.declared.rows.RowSort.TheVariants as row
use Rattle.indexing.specs.Checks.{Entered, enters}
use Rattle.node.specs.Nodes.{NodeAt, node_of}

-- what a record says, with its index row
pub record TypeEntry : Type 0 where
  pub row : Row
  pub type : TypeRow

pub record BindingEntry : Type 0 where
  pub row : Row
  pub type : ℕ
  pub owner : ℕ
  pub name : List ℕ

pub record NodeEntry : Type 0 where
  pub row : Row
  pub node : NodeAt

-- A body, as far as it has been read: its records by sort, which nodes have a parent, and the nodes of its closures.
pub record Draft : Type 0 where
  pub types : List TypeEntry
  pub bindings : List BindingEntry
  pub nodes : List NodeEntry
  pub taken : List Bool
  pub closures : List ℕ

abbrev pub empty : Draft
empty = record { types = []; bindings = []; nodes = []; taken = replicate 2049 false; closures = [] }

abbrev pub type_rows : Draft → List Row
type_rows d = map (λ (e : TypeEntry). e.row) d.types

abbrev pub binding_rows : Draft → List Row
binding_rows d = map (λ (e : BindingEntry). e.row) d.bindings

abbrev pub node_rows : Draft → List Row
node_rows d = map (λ (e : NodeEntry). e.row) d.nodes

-- the index table: a row a record, in the order of the file
abbrev pub rows_of : Draft → List Row
rows_of d = type_rows d ++ (binding_rows d ++ node_rows d)

abbrev pub add_type : Draft → ℕ → List ℕ → Draft
add_type d offset p = record {
  types = d.types ++ record { row = record { offset = offset; sort = row.«Type»; home = 0; depth = 0 }; type = type_of p } ∷ [];
  bindings = d.bindings;
  nodes = d.nodes;
  taken = d.taken;
  closures = d.closures;
}

-- a binding: its type, its owner, and its name, which is any bytes
abbrev pub add_binding : Draft → ℕ → List ℕ → Draft
add_binding d offset p = record {
  types = d.types;
  bindings = d.bindings ++ record { row = record { offset = offset; sort = row.Binding; home = byte_at p 2; depth = 0 }; type = number_at p 0; owner = byte_at p 2; name = drop 3 p } ∷ [];
  nodes = d.nodes;
  taken = d.taken;
  closures = d.closures;
}

abbrev pub with_closure : List ℕ → ℕ → Option ℕ → List ℕ
with_closure cs n None = cs
with_closure cs n (Some k) = cs ++ n ∷ []

abbrev pub add_node : Draft → List ℕ → Option ℕ → Result Entered BodyFault → Result Draft BodyFault
add_node d p closing (Err e) = Err e
add_node d p closing (Ok x) = Ok (record {
  types = d.types;
  bindings = d.bindings;
  nodes = d.nodes ++ record { row = x.row; node = node_of p } ∷ [];
  taken = x.taken;
  closures = with_closure d.closures (length d.nodes + 1) closing;
})

abbrev pub try_node : Draft → Option ℕ → ℕ → List ℕ → Result Draft BodyFault
try_node d closing offset p = add_node d p closing (enters (node_rows d) (length d.bindings) d.taken closing offset p)

-- the k-th closure node is closure k
abbrev pub add_as : Item → Draft → ℕ → List ℕ → Result Draft BodyFault
add_as item.«Type» d offset p = Ok (add_type d offset p)
add_as item.Binding d offset p = Ok (add_binding d offset p)
add_as item.Node d offset p = try_node d None offset p
add_as item.Closure d offset p = try_node d (Some (length d.closures + 1)) offset p

abbrev pub adds : Draft → Found → Result Draft BodyFault
adds d f = add_as f.item d f.offset f.payload

-- the first binding whose owner is above the closure count
abbrev pub misowned : ℕ → List Row → Option ℕ
misowned k [] = None
misowned k (r ∷ rs) = cond (nat_lt k r.home) (Some r.offset) (misowned k rs)

-- a node that has a home but no parent
abbrev pub has_strayed : List Bool → ℕ → Row → Bool
has_strayed taken n r = not (r.home == 0) && not (slice_index_or taken n false)

-- the first such node, counted from n
abbrev pub astray : List Bool → ℕ → List Row → Option ℕ
astray taken n [] = None
astray taken n (r ∷ rs) = cond (has_strayed taken n r) (Some r.offset) (astray taken (n + 1) rs)

abbrev pub first_of : Option ℕ → Option ℕ → Option ℕ
first_of None y = y
first_of (Some x) y = Some x

abbrev pub unless : Draft → Option ℕ → Result Draft BodyFault
unless d None = Ok d
unless d (Some offset) = Err (fault.Home offset)

-- after the last record
abbrev pub finish : Draft → Result Draft BodyFault
finish d = unless d (first_of (misowned (length d.closures) (binding_rows d)) (astray d.taken 1 (node_rows d)))

abbrev pub go_on : (State → Draft → Result Draft BodyFault) → State → Result Draft BodyFault → Result Draft BodyFault
go_on more s (Err e) = Err e
go_on more s (Ok d) = more s d

abbrev pub after : (State → Draft → Result Draft BodyFault) → Draft → State → Answer → Result Draft BodyFault
after more d s (Err e) = Err (fault.Reader e)
after more d s (Ok None) = finish d
after more d s (Ok (Some f)) = go_on more s (adds d f)

-- what comes of the rest of a file, with so many index rows left
abbrev pub scan : ℕ → State → Draft → Result Draft BodyFault
scan zero s d = after (λ t e. Err (fault.Reader (at_reader.TooMany s.offset))) d (reads zero s).state (reads zero s).answer
scan (suc room) s d = after (scan room) d (reads (suc room) s).state (reads (suc room) s).answer

-- a file opened with so many index rows: the body, or the refusal
abbrev pub opened : ℕ → List ℕ → Result Draft BodyFault
opened rows file = scan rows (start file) empty
