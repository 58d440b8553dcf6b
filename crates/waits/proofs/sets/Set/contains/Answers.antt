use Rattle.std.proofs.Common.{◌∙◌}
use Rattle.waits.specs.Words.{has}
use Rattle.waits.proofs.Bits.{bit_test}
use Rattle.waits.proofs.sets.Set.contains.Goals as goal

pub returns : goal.returns
returns c = bit_test _ _ ∙ (λ p. has (c.self.view_is p) (c.c.view_is p))
