use Rattle.narrow.proofs.Narrowed.{narrowing}
use Rattle.narrow.proofs.laws.narrowing_stands.Goals as goal

pub returns : goal.returns
returns c = narrowing
