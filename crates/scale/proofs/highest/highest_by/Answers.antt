use Rattle.std.proofs.Common.{filter_map, fold, reverse, ap, ◌∙◌, rules, tests}
use Rattle.std.proofs.lemmas.Iterator.Adapters.{YieldsList-from_rev_slice}
use Rattle.std.proofs.lemmas.Iterator.Consumers.{YieldsList-at, YieldsList-from_filter_map, fold_from_yields_List}
use Rattle.scale.specs.Highest.{higher}
use Rattle.scale.proofs.Highests.{all_back, tops_at}
use Rattle.scale.proofs.highest.highest_by.Goals as goal

pub returns : goal.returns
returns g c =
    let s = g.S.Scale in
    let f = g.G.Grading.graded c.args.grading.now in
    let rs = c.args.rows.now in
    let folded =
    fold_from_yields_List _ (λ best entry. higher s.low s.leq entry best) _ c.fold.result c.fold.ensures.ran (YieldsList-from_filter_map _ f (YieldsList-at c.filter_map.ensures.source (YieldsList-from_rev_slice rs (cc))) c.filter_map.ensures.closure (λ x r q k. search (rules, tests))) (λ a x b q k. search (rules, tests)) in
    let found =
    folded ∙ ap (λ v. fold (λ best entry. higher s.low s.leq entry best) (record { value = v; site = 0 }) (filter_map f (reverse rs))) c.lowest.ensures ∙ all_back s.low s.leq f rs in
    record { is = found; tops = tops_at s.low s.leq g.met.S.Scale.is_scale _ _ found }
