use Rattle.place.proofs.Prefixes.{ancestry}
use Rattle.place.proofs.places.ancestry_stands.Goals as goal

pub returns : goal.returns
returns c = ancestry
