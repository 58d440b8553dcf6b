use Rattle.std.proofs.Common.{◌≡◌, map, refl, rules, tests}
use Rattle.std.proofs.lemmas.Fn.{fold_over, fronts}
use Rattle.std.proofs.lemmas.Iterator.{YieldsList-from_slice}
use Rattle.place.specs.Places.{spot, lies_under}
use Rattle.cover.specs.Cover.{root}
use Rattle.cover.specs.Views.{used}
use Rattle.cover.proofs.Scans.{root_more}
use Rattle.cover.proofs.roots.root_of.Goals as goal

pub returns : goal.returns
returns g c =
    let uses = c.args.uses.now in
    let p = spot c.args.place in
    fold_over fronts (λ y. y.now) _ (λ us top. spot top ≡ root lies_under (map used us) p) _ (λ us a x b q j k. (root_more us x.now p a b j (search (rules, tests)), search (rules, tests))) c.iter.result uses _ c.fold.result (YieldsList-from_slice uses (cc)).runs refl c.fold.ensures.ran
