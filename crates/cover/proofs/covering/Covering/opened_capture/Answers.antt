use Rattle.std.proofs.Common.{rules, tests}
use Rattle.cover.proofs.Opened.{one_opened}
use Rattle.cover.proofs.covering.Covering.opened_capture.Goals as goal

pub returns : goal.returns
returns g c =
    let self = c.args.self.now in
    one_opened (g.C.Cutting.cuts self.rule.now) g.C.Value.Scale.low g.C.Value.Scale.leq self.uses.now c.args.i c.in_ok-opener.opener.now (search (rules, tests)) (search (rules, tests)) c.in_ok-place.place (search (rules, tests)) _ c.capture.ensures.place c.capture.ensures.mode c.capture.ensures.first
