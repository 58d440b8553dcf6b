use Rattle.std.proofs.Common.{◌≡◌, ◌+◌, drop}
use Rattle.narrow.specs.Walks.{unsafe_at}
use Rattle.narrow.proofs.walks.to_unsafe.Given as goal

abbrev pub invariant-loop-i : goal.invariant-loop-i
invariant-loop-i g l = let m = g.W.World.means l.w in l.i + unsafe_at m l.t (drop l.i l.path) ≡ unsafe_at m l.initial.t l.path
