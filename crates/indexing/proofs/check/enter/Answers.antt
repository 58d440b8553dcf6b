use Rattle.std.proofs.Common.{◌≡◌, ℕ, true, List, is_some, sym, ap, ◌∙◌}
use Rattle.reader.specs.Operands.{Left, all, spelled}
use Rattle.reader.proofs.Operating.{fits_spelled}
use Rattle.indexing.specs.Checks.{operands_left, listed}
use Rattle.indexing.proofs.Entering.{enters_operand, enters_parent, enters_nesting, enters_home, enters_ok}
use Rattle.indexing.proofs.check.enter.Goals as goal

-- the operands that the code reads are those of the node

read : (p : List ℕ) (l : Left) → l ≡ operands_left p → is_some (all (operands_left p)) ≡ true → spelled l ≡ listed (operands_left p)
read p l e fits = ap spelled e ∙ fits_spelled (operands_left p) fits

pub returns-then-any_bad : goal.returns-then-any_bad
returns-then-any_bad c = enters_operand c.args.nodes.now c.args.bindings c.args.marks.now c.args.closing c.args.offset c.args.payload.now _ (read c.args.payload.now _ c.operands_of-operands.ensures c.requires) (sym c.if-any_bad.ensures)

pub returns-then-not-claim : goal.returns-then-not-claim
returns-then-not-claim c = enters_parent c.args.nodes.now c.args.bindings c.args.marks.now c.args.closing c.args.offset c.args.payload.now _ (read c.args.payload.now _ c.operands_of-operands.ensures c.requires) (sym c.if-any_bad.ensures) c.if-not-claim.ensures

pub returns-then-depth-gt128 : goal.returns-then-depth-gt128
returns-then-depth-gt128 c = enters_nesting c.args.nodes.now c.args.bindings c.args.marks.now c.args.closing c.args.offset c.args.payload.now _ (read c.args.payload.now _ c.operands_of-operands.ensures c.requires) (sym c.if-any_bad.ensures) _ c.if-not-claim.ensures _ c.depth_below.ensures c.if-depth-gt128.true

pub returns-then-home_misfits : goal.returns-then-home_misfits
returns-then-home_misfits c = enters_home c.args.nodes.now c.args.bindings c.args.marks.now c.args.closing c.args.offset c.args.payload.now _ (read c.args.payload.now _ c.operands_of-operands.ensures c.requires) (sym c.if-any_bad.ensures) _ c.if-not-claim.ensures _ c.depth_below.ensures _ c.byte_at-home.ensures c.if-depth-gt128.false (sym c.if-home_misfits.ensures)

pub returns : goal.returns
returns c = enters_ok c.args.nodes.now c.args.bindings c.args.marks.now c.args.closing c.args.offset c.args.payload.now _ (read c.args.payload.now _ c.operands_of-operands.ensures c.requires) (sym c.if-any_bad.ensures) _ c.if-not-claim.ensures _ c.depth_below.ensures _ c.byte_at-home.ensures c.if-depth-gt128.false (sym c.if-home_misfits.ensures) _ c.sort_of.ensures
