-- The index table: a row a record, here those of the nodes.
use Rattle.std.specs.Prelude.{ℕ, zero, suc, Bool, true, false, List, slice_index_or}
use Rattle.indexing.specs.declared.rows.Row.{Row}
use Rattle.indexing.specs.declared.rows.RowSort.{RowSort}
use Rattle.indexing.specs.declared.rows.RowSort.TheVariants.{«Type», Binding, Expr, Pat}

-- a row that is no node's
abbrev pub no_row : Row
no_row = record { offset = 0; sort = «Type»; home = 0; depth = 0 }

-- the row of a node by its number, from 1
abbrev pub row_at : List Row → ℕ → Row
row_at nodes zero = no_row
row_at nodes (suc n) = slice_index_or nodes n no_row

abbrev pub is_expr : RowSort → Bool
is_expr «Type» = false
is_expr Binding = false
is_expr Expr = true
is_expr Pat = false

abbrev pub is_pat : RowSort → Bool
is_pat «Type» = false
is_pat Binding = false
is_pat Expr = false
is_pat Pat = true
