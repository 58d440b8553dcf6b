use Rattle.std.proofs.Common.{map, refl}
use Rattle.place.specs.Places.{lies_under}
use Rattle.cover.specs.Covering.{Rules}
use Rattle.cover.specs.Views.{used}
use Rattle.place.proofs.Prefixes.{ancestry}
use Rattle.cover.proofs.Covers.{captures_cover}
use Rattle.cover.proofs.covering.Covering.new.Goals as goal

pub returns : goal.returns
returns g c =
    let s = g.C.Value.Scale in
    let rules : Rules lies_under (g.C.Cutting.cuts c.args.rule.now) s.low s.leq = record {
      places = ancestry;
      scale = g.met.C.Value.Scale.is_scale;
      cuts = g.met.C.Cutting.lawful c.args.rule.now;
    } in
    record {
      rule = refl;
      uses = refl;
      covers = captures_cover lies_under (g.C.Cutting.cuts c.args.rule.now) s.low s.leq rules (map used c.args.uses.now);
    }
