use Rattle.narrow.proofs.Cuts.{cutting, cutting_places}
use Rattle.narrow.proofs.laws.cuts_stand.Goals as goal

pub returns : goal.returns
returns c = record { uses = cutting; places = cutting_places }
