use Rattle.place.proofs.Views.{equal_is, same_is}
use Rattle.place.proofs.places.Place.is_same.Goals as goal

pub returns : goal.returns
returns c = let one = equal_is _ _ _ c.eq.ensures in record { is = same_is _ _ _ one; one = one }
