use Rattle.std.proofs.Common.{◌≡◌, ℕ, ◌-◌, ◌^◌, true}
use Rattle.waits.specs.Words.{has, waits_in}
use Rattle.waits.specs.Reach.{Waiting, Reach}
use Rattle.waits.proofs.reach.reached.Given as goal

abbrev pub invariant-loop-next : goal.invariant-loop-next
invariant-loop-next l = ((d : ℕ) → has l.seen d ≡ true → Reach (Waiting (waits_in l.sets)) l.fn.from d) × (has l.seen l.fn.from ≡ true)

abbrev pub decreases-loop-next : goal.decreases-loop-next
decreases-loop-next l = 2 ^ 64 - l.seen
