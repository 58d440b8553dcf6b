use Rattle.std.proofs.Common.{◌≡◌, ◌-◌, ◌^◌, Bool, false, List, length}
use Rattle.std.specs.List.{FoldsTo, list_any}
use Rattle.timing.proofs.best.Given as goal

abbrev pub invariant-loop-turn : goal.invariant-loop-turn
invariant-loop-turn g l =
    goal.F-IsAlwaysCallable g l.run
    × ((answers : List Bool) × FoldsTo (goal.F-step g) l.fn.run answers l.run × (length answers ≡ l._turn) × (list_any (λ b. b) answers ≡ false → l.least ≡ 2 ^ 128 - 1))
