use Rattle.cover.proofs.Laid.{laid_skipped, laid_pushed}
use Rattle.cover.proofs.covering.Covering.lay_out.Goals as goal
use Rattle.cover.proofs.covering.Covering.lay_out.Goals.{in-Some, in_default}

pub loop-i-preserved : goal.loop-i-preserved
loop-i-preserved g c =
    let self = c.args.self.now in
    let l = c.loop-i in
    let next = c.match-opened_capture in
    let skipped = laid_skipped (g.C.Cutting.cuts self.rule.now) g.C.Value.Scale.low g.C.Value.Scale.leq self.uses.now c.args.filled c.args.table.now l.i l.n l.table l.invariant c.opened_capture.result c.loop-i-test.true c.opened_capture.ensures in
    let pushed = laid_pushed (g.C.Cutting.cuts self.rule.now) g.C.Value.Scale.low g.C.Value.Scale.leq self.uses.now c.args.filled c.args.table.now l.i l.n l.table l.invariant c.opened_capture.result c.loop-i-test.true c.opened_capture.ensures in
    elim next.branch [
      | in-Some w ↦ pushed w.in-Some.capture w.in-Some.is c.requires next.n next.table w.n-is w.table-is
      | in_default w ↦ skipped next.n next.table w.n-is w.table-is w.in_default.is
    ]
