-- The class of a node whose record was read.
use Rattle.std.proofs.Common.{◌≡◌, ℕ, true, List, is_some, ap, ◌∙◌}
use Rattle.reader.specs.declared.class.Class.{Class}
use Rattle.reader.specs.declared.payload.Item.{Item}
use Rattle.reader.specs.Classes.{head, again}
use Rattle.reader.specs.Operands.{all, operands}
use Rattle.reader.specs.Payloads.{operand_bytes}
use Rattle.reader.proofs.Stepping.{Classed}
use Rattle.node.specs.Nodes.{class_at, class_or_leaf}
use Rattle.indexing.specs.Checks.{operands_left}

pub class_is : (p : List ℕ) (i : Item) (k : Classed p i) → class_at p ≡ k.class
class_is p i k = ap class_or_leaf k.named

pub operands_fit : (p : List ℕ) (i : Item) → Classed p i → is_some (all (operands_left p)) ≡ true
operands_fit p i k = ap (λ (c : Class). is_some (operands (again c) (head c) (operand_bytes c p))) (class_is p i k) ∙ k.fits
