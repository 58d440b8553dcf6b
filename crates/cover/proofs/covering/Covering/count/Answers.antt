use Rattle.std.proofs.Common.{is_some, length, ◌∙◌, arith, rules, tests}
use Rattle.std.proofs.lemmas.Iterator.{YieldsList-from_range}
use Rattle.std.proofs.lemmas.Iterator.Consumers.{YieldsList-from_filter, count_from_yields_List}
use Rattle.cover.specs.Views.{place_opened}
use Rattle.cover.proofs.Answered.{count_is}
use Rattle.cover.proofs.Opened.{places_count, opens_some}
use Rattle.cover.proofs.covering.Covering.count.Goals as goal

pub returns : goal.returns
returns g c =
    let uses = c.args.self.now.uses.now in
    let counted =
    count_from_yields_List c.filter.result c.count.result c.count.ensures.ran (YieldsList-from_filter _ (λ i. is_some (place_opened uses i)) (YieldsList-from_range 0 _ (length uses) c.filter.ensures.source (omega arith)) c.filter.ensures.closure (λ x b q k. search (rules, tests, opens_some))) in
    count_is (g.C.Cutting.cuts c.args.self.now.rule.now) g.C.Value.Scale.low g.C.Value.Scale.leq uses c.count.result (counted ∙ places_count uses)
