use Rattle.narrow.proofs.Viewed.{view_one}
use Rattle.narrow.proofs.laws.views_stand.Goals as goal

pub returns : goal.returns
returns c = view_one
