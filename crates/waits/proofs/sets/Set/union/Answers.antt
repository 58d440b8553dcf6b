use Rattle.std.proofs.Common.{◌||◌, ◌∙◌, arith}
use Rattle.waits.specs.Words.{has}
use Rattle.waits.proofs.Bits.{has_or, or_rises}
use Rattle.waits.proofs.sets.Set.union.Goals as goal

pub returns : goal.returns
returns c = record {
  rises = omega (arith, or_rises c.self.inside.word c.other.inside.word, c.self.view_is);
  both = λ d. has_or _ _ d ∙ (λ p. has (c.self.view_is p) d || has (c.other.view_is p) d);
}
