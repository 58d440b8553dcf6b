use Rattle.std.proofs.Common.{◌≡◌, drop}
use Rattle.narrow.specs.Walks.{meets}
use Rattle.narrow.proofs.walks.has_deref.Given as goal

abbrev pub invariant-loop-s : goal.invariant-loop-s
invariant-loop-s g l = let m = g.W.World.means l.w in meets m l.sort l.t (drop l.s-index l.path) ≡ meets m l.sort l.initial.t l.path
