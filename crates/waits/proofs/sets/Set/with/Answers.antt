use Rattle.std.proofs.Common.{◌||◌, ◌∙◌, eqb}
use Rattle.waits.specs.Words.{has}
use Rattle.waits.proofs.Bits.{has_with}
use Rattle.waits.proofs.sets.Set.with.Goals as goal

pub returns : goal.returns
returns c = λ d. has_with _ _ d c.c.invariant ∙ (λ p. has (c.self.view_is p) d || eqb d (c.c.view_is p))
