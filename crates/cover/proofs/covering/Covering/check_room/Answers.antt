use Rattle.std.proofs.Common.{arith}
use Rattle.cover.proofs.Answered.{captures_few}
use Rattle.cover.proofs.covering.Covering.check_room.Goals as goal

pub returns-then-self-room : goal.returns-then-self-room
returns-then-self-room g c =
    let self = c.args.self.now in
    omega (arith, captures_few (g.C.Cutting.cuts self.rule.now) g.C.Value.Scale.low g.C.Value.Scale.leq self.uses.now)
