-- Where the records of a body lie in its file.
use Rattle.std.specs.Prelude.{◌≡◌, ℕ, zero, suc, ◌+◌, cond, List, drop, Some, None, Option, nat_lt, slice_index_or}
use Rattle.std.specs.List.{AllByRecursion}
use Rattle.reader.specs.Pieces.{byte_at, number_at, payload_at}
use Rattle.reader.specs.Types.{type_of}
use Rattle.node.specs.Nodes.{node_of}
use Rattle.indexing.specs.declared.rows.Row.{Row}
use Rattle.indexing.specs.Rows.{no_row}
use Rattle.indexing.specs.Opening.{Draft, TypeEntry, BindingEntry, NodeEntry}

abbrev pub TypeThere : List ℕ → TypeEntry → Type 0
TypeThere file e = e.type ≡ type_of (payload_at file e.row.offset)

abbrev pub BindingThere : List ℕ → BindingEntry → Type 0
BindingThere file e =
    (e.type ≡ number_at (payload_at file e.row.offset) 0) × (e.owner ≡ byte_at (payload_at file e.row.offset) 2) × (e.name ≡ drop 3 (payload_at file e.row.offset))

abbrev pub NodeThere : List ℕ → NodeEntry → Type 0
NodeThere file e = e.node ≡ node_of (payload_at file e.row.offset)

-- every record is what its row's place in the file says
pub record Placed (file : List ℕ) (d : Draft) : Type 0 where
  pub types : AllByRecursion (TypeThere file) d.types
  pub bindings : AllByRecursion (BindingThere file) d.bindings
  pub nodes : AllByRecursion (NodeThere file) d.nodes

-- the payload of a record by its number from 1, among so many behind the first rows
abbrev pub payload_in : List Row → List ℕ → ℕ → ℕ → ℕ → Option (List ℕ)
payload_in rows file before count zero = None
payload_in rows file before count (suc n) = cond (nat_lt n count) (Some (payload_at file (slice_index_or rows (before + n) no_row).offset)) None
