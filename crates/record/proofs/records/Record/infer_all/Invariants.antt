use Rattle.std.proofs.Common.{length}
use Rattle.closures.specs.Views.{ledger}
use Rattle.record.proofs.Turning.{Turned, still_open}
use Rattle.record.proofs.records.Record.infer_all.Given as goal

abbrev pub invariant-loop-c : goal.invariant-loop-c
invariant-loop-c g l = Turned g.W.World.means (length l.initial.uses) l.initial.self l.self

-- how many closures are left to analyse
abbrev pub decreases-loop-c : goal.decreases-loop-c
decreases-loop-c g l = still_open l.self.closures.count (ledger l.self.closures)
