use Rattle.std.proofs.Common.{◌∙◌, rules, tests}
use Rattle.std.proofs.lemmas.Iterator.{YieldsList-from_slice}
use Rattle.std.proofs.lemmas.Iterator.Search.{any_from_yields_List}
use Rattle.place.specs.Places.{spot, lies_under}
use Rattle.cover.proofs.Scans.{any_used}
use Rattle.cover.proofs.roots.is_reached.Goals as goal

pub returns : goal.returns
returns g c =
    let uses = c.args.uses.now in
    let p = spot c.args.place.now in
    any_from_yields_List (λ u. lies_under (spot u.place) p) _ _ _ c.any.ensures.ran (YieldsList-from_slice uses (cc)) (λ x b q k. search (rules, tests)) ∙ any_used uses p
