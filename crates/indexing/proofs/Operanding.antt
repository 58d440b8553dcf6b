-- The operands of a node, one by one.
use Rattle.std.proofs.Common.{◌≡◌, ℕ, max, List, [], ◌∷◌, fold, refl}
use Rattle.reader.specs.declared.operands.Operand.{Operand}
use Rattle.indexing.specs.declared.rows.Row.{Row}
use Rattle.indexing.specs.Checks.{child_of, depth_of, deepest}

-- the deepest, as a fold finds it
pub deepest_is : (nodes : List Row) (d : ℕ) (os : List Operand) → fold (λ (d : ℕ) (o : Operand). max d (depth_of nodes (child_of o))) d os ≡ deepest nodes d os
deepest_is nodes d [] = refl
deepest_is nodes d (o ∷ os) = deepest_is nodes (max d (depth_of nodes (child_of o))) os
