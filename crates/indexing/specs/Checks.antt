-- How a node stands to the nodes before it.
use Rattle.std.specs.Prelude.{ℕ, ◌+◌, max, Bool, true, false, cond, not, ◌||◌, List, [], ◌∷◌, Some, None, Ok, Err, Option, Result, ◌==◌, nat_lt, slice_index_or, slice_set}
use Rattle.reader.specs.declared.class.Class.{Class}
use Rattle.reader.specs.declared.class.Sort.{Sort}
use Rattle.reader.specs.declared.class.Sort.TheVariants.{Expr, MaybeExpr, Pat, MaybePat, Binding, Step, Flag}
use Rattle.reader.specs.declared.operands.Operand.{Operand}
use Rattle.reader.specs.Classes.{head, again, is_expression}
use Rattle.reader.specs.Operands.{Left, all, or_none, any}
use Rattle.reader.specs.Payloads.{operand_bytes}
use Rattle.reader.specs.Pieces.{byte_at}
use Rattle.indexing.specs.declared.faults.BodyFault.{BodyFault}
use Rattle.indexing.specs.declared.faults.BodyFault.TheVariants as fault
use Rattle.indexing.specs.declared.rows.Row.{Row}
use Rattle.indexing.specs.declared.rows.RowSort.{RowSort}
use Rattle.indexing.specs.declared.rows.RowSort.TheVariants as row
use Rattle.node.specs.Nodes.{class_at}
use Rattle.indexing.specs.Rows.{row_at, is_expr, is_pat}

-- the operands of a node, read by the sorts of its class
abbrev pub operands_left : List ℕ → Left
operands_left p = record { bytes = operand_bytes (class_at p) p; sorts = head (class_at p); again = again (class_at p) }

abbrev pub listed : Left → List Operand
listed l = or_none (all l)

-- a step is 0 only for a dereference, which no operand is, and 65,535 for a field that does not exist; 65,533 and 65,534 are none
abbrev pub bad_step : ℕ → Bool
bad_step s = s == 0 || (s == 65533 || s == 65534)

-- an operand that names no earlier node of its sort, no binding, or a bad step
abbrev pub bad_number : List Row → ℕ → Sort → ℕ → Bool
bad_number nodes bindings Expr n = not (is_expr (row_at nodes n).sort)
bad_number nodes bindings MaybeExpr n = not (n == 0 || is_expr (row_at nodes n).sort)
bad_number nodes bindings Pat n = not (is_pat (row_at nodes n).sort)
bad_number nodes bindings MaybePat n = not (n == 0 || is_pat (row_at nodes n).sort)
bad_number nodes bindings Binding n = n == 0 || nat_lt bindings n
bad_number nodes bindings Step n = bad_step n
bad_number nodes bindings (Flag m) n = false

abbrev pub bad_operand : List Row → ℕ → Operand → Bool
bad_operand nodes bindings o = bad_number nodes bindings o.sort o.number

-- the child that an operand names; none for a binding, a step, a flag, or a child that is missing
abbrev pub child_number : Sort → ℕ → Option ℕ
child_number Expr n = Some n
child_number MaybeExpr n = cond (n == 0) None (Some n)
child_number Pat n = Some n
child_number MaybePat n = cond (n == 0) None (Some n)
child_number Binding n = None
child_number Step n = None
child_number (Flag m) n = None

abbrev pub child_of : Operand → Option ℕ
child_of o = child_number o.sort o.number

-- `taken` says of each node, by its number, whether it has a parent. A node claims its children one by one, and fails
-- where one is taken.
abbrev pub claim_child : List Bool → Option ℕ → Option (List Bool)
claim_child taken None = Some taken
claim_child taken (Some c) = cond (slice_index_or taken c false) None (Some (slice_set taken c true))

abbrev pub claims : List Bool → List Operand → Option (List Bool)
claims taken [] = Some taken
claims taken (o ∷ os) = elim (claim_child taken (child_of o)) [ None ↦ None | Some t ↦ claims t os ]

-- how deep the deepest child nests, 0 without children
abbrev pub depth_of : List Row → Option ℕ → ℕ
depth_of nodes None = 0
depth_of nodes (Some c) = (row_at nodes c).depth

abbrev pub deepest : List Row → ℕ → List Operand → ℕ
deepest nodes d [] = d
deepest nodes d (o ∷ os) = deepest nodes (max d (depth_of nodes (child_of o))) os

-- a child whose home is not the one that its parent gives it
abbrev pub home_not : List Row → ℕ → Option ℕ → Bool
home_not nodes home None = false
home_not nodes home (Some c) = not ((row_at nodes c).home == home)

abbrev pub strays : List Row → ℕ → Operand → Bool
strays nodes home o = home_not nodes home (child_of o)

-- Children share their parent's home. The body of the k-th closure has home k instead, and its node has home 0 or above k.
-- `closing` is the number of the closure that the node is, if it is one.
abbrev pub home_misfits : List Row → ℕ → Option ℕ → List Operand → Bool
home_misfits nodes home None os = any (strays nodes home) os
home_misfits nodes home (Some k) os = any (strays nodes k) os || not (home == 0 || nat_lt k home)

abbrev pub sort_of : Class → RowSort
sort_of c = cond (is_expression c) row.Expr row.Pat

-- what a node's record brings: its row, and whether each node has a parent now
pub record Entered : Type 0 where
  pub row : Row
  pub taken : List Bool

abbrev pub settled : List Row → Option ℕ → ℕ → List ℕ → List Operand → Option (List Bool) → Result Entered BodyFault
settled nodes closing offset p os None = Err (fault.Parent offset)
settled nodes closing offset p os (Some taken) =
    cond (nat_lt 128 (deepest nodes 0 os + 1)) (Err (fault.Nesting offset))
    (cond (home_misfits nodes (byte_at p 0) closing os) (Err (fault.Home offset))
    (Ok (record { row = record { offset = offset; sort = sort_of (class_at p); home = byte_at p 0; depth = deepest nodes 0 os + 1 }; taken = taken })))

-- A node is looked at for its operands, then for children that have a parent, then for its nesting, then for homes.
abbrev pub enters : List Row → ℕ → List Bool → Option ℕ → ℕ → List ℕ → Result Entered BodyFault
enters nodes bindings taken closing offset p =
    cond (any (bad_operand nodes bindings) (listed (operands_left p))) (Err (fault.Operand offset))
    (settled nodes closing offset p (listed (operands_left p)) (claims taken (listed (operands_left p))))

abbrev pub entered : Result Row BodyFault → List Bool → Result Entered BodyFault
entered (Err e) taken = Err e
entered (Ok r) taken = Ok (record { row = r; taken = taken })
