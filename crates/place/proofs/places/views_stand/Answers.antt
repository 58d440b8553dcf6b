use Rattle.place.proofs.Views.{path_one}
use Rattle.place.proofs.places.views_stand.Goals as goal

pub returns : goal.returns
returns c = path_one
