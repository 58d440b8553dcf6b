use Rattle.cover.proofs.Laid.{Laid}
use Rattle.cover.proofs.covering.Covering.lay_out.Given as goal

abbrev pub invariant-loop-i : goal.invariant-loop-i
invariant-loop-i g l = Laid (g.C.Cutting.cuts l.self.rule.now) g.C.Value.Scale.low g.C.Value.Scale.leq l.self.uses.now l.filled l.initial.table l.i l.n l.table
