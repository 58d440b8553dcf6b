use Rattle.std.proofs.Common.{ap, ◌∙◌}
use Rattle.scale.specs.Highest.{highest}
use Rattle.place.specs.Places.{spot, lies_under}
use Rattle.cover.specs.Cover.{tells}
use Rattle.cover.specs.Views.{used}
use Rattle.scale.proofs.Highests.{entries_map}
use Rattle.cover.proofs.covering.Covering.mode_at.Goals as goal

pub returns : goal.returns
returns g c =
    let s = g.C.Value.Scale in
    let self = c.args.self.now in
    c.highest_by.ensures.is ∙ ap (highest s.low s.leq) (entries_map (tells lies_under (g.C.Cutting.cuts self.rule.now) (spot c.args.place)) used self.uses.now)
