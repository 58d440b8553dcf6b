use Rattle.std.proofs.Common.{rules}
use Rattle.place.proofs.Prefixes.{starts_is_begins}
use Rattle.place.proofs.path.Path.is_prefix_of.Goals as goal

pub returns : goal.returns
returns c = search (rules, starts_is_begins)
