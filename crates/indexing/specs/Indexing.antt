-- The index table as open fills it, row by row.
use Rattle.std.specs.Prelude.{◌≡◌, ℕ, ◌+◌, ◌≤◌, Bool, true, List, length, take, drop, is_some, Some, None, Ok, Err, Option, Result, slice_set}
use Rattle.reader.specs.declared.counts.Counts.{Counts}
use Rattle.reader.specs.declared.payload.Item.{Item}
use Rattle.reader.specs.declared.payload.Item.TheVariants as item
use Rattle.reader.specs.Operands.{all}
use Rattle.reader.specs.Pieces.{byte_at}
use Rattle.reader.specs.Reading.{Found}
use Rattle.indexing.specs.declared.faults.BodyFault.{BodyFault}
use Rattle.indexing.specs.declared.faults.BodyFault.TheVariants as fault
use Rattle.indexing.specs.declared.index.Core.{Core}
use Rattle.indexing.specs.declared.rows.Row.{Row}
use Rattle.indexing.specs.declared.rows.RowSort.TheVariants as row
use Rattle.indexing.specs.Checks.{Entered, enters, operands_left}
use Rattle.indexing.specs.Opening.{Draft, rows_of, first_of, misowned, astray}

-- a node's operands fit its class
abbrev pub Fitting : Item → List ℕ → Type 0
Fitting item.«Type» p = Unit {0}
Fitting item.Binding p = Unit {0}
Fitting item.Node p = is_some (all (operands_left p)) ≡ true
Fitting item.Closure p = is_some (all (operands_left p)) ≡ true

-- the row of a record, behind the rows before it; the counts have the record in
abbrev pub row_as : Item → List Row → Counts → List Bool → ℕ → List ℕ → Result Entered BodyFault
row_as item.«Type» rows c taken offset p = Ok (record { row = record { offset = offset; sort = row.«Type»; home = 0; depth = 0 }; taken = taken })
row_as item.Binding rows c taken offset p = Ok (record { row = record { offset = offset; sort = row.Binding; home = byte_at p 2; depth = 0 }; taken = taken })
row_as item.Node rows c taken offset p = enters (drop (c.types + c.bindings) rows) c.bindings taken None offset p
row_as item.Closure rows c taken offset p = enters (drop (c.types + c.bindings) rows) c.bindings taken (Some c.closures) offset p

abbrev pub row_for : List Row → Counts → List Bool → Found → Result Entered BodyFault
row_for rows c taken f = row_as f.item rows c taken f.offset f.payload

abbrev pub noted : List ℕ → Counts → Item → List ℕ
noted cs c item.«Type» = cs
noted cs c item.Binding = cs
noted cs c item.Node = cs
noted cs c item.Closure = slice_set cs c.closures c.nodes

-- the tests after the last record
abbrev pub home_at : Option ℕ → Result (Unit {0}) BodyFault
home_at None = Ok tt
home_at (Some offset) = Err (fault.Home offset)

abbrev pub ended : List Row → Counts → List Bool → Result (Unit {0}) BodyFault
ended rows c taken = home_at (first_of (misowned c.closures (take c.bindings (drop c.types rows))) (astray taken 1 (drop (c.types + c.bindings) rows)))

-- a body's index: its rows stand at the front of the table, and its counts and closures beside them
pub record Indexed (d : Draft) (core : Core) (rows : List Row) : Type 0 where
  pub types : core.counts.types ≡ length d.types
  pub bindings : core.counts.bindings ≡ length d.bindings
  pub nodes : core.counts.nodes ≡ length d.nodes
  pub closures : core.counts.closures ≡ length d.closures
  pub few : core.counts.closures ≤ 64
  pub rows_are : take (length (rows_of d)) rows ≡ rows_of d
  pub nodes_are : take (length d.closures) (drop 1 core.closures) ≡ d.closures

abbrev pub Indexes : Result Draft BodyFault → Result Core BodyFault → List Row → Type 0
Indexes (Err e) r rows = r ≡ Err e
Indexes (Ok d) (Err e) rows = ⊥
Indexes (Ok d) (Ok core) rows = Indexed d core rows
