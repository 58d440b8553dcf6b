use Rattle.std.proofs.Common.{◌∙◌, arith}
use Rattle.waits.specs.Words.{has, how_many}
use Rattle.waits.proofs.Counts.{ones_many}
use Rattle.waits.proofs.sets.Set.len.Goals as goal

pub returns : goal.returns
returns c = ones_many 64 _ (omega arith) ∙ (λ p. how_many (has (c.self.view_is p)) 64)
