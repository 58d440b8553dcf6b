use Rattle.std.proofs.Common.{rules, tests}
use Rattle.cover.proofs.Opened.{opened_here}
use Rattle.cover.proofs.covering.Covering.opened_place.Goals as goal

pub returns : goal.returns
returns g c = opened_here c.args.self.now.uses.now c.args.i c.in_ok-opener.opener.now (search (rules, tests)) (search (rules, tests)) c.opened.result c.opened.ensures
