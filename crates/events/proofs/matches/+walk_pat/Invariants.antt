use Rattle.std.proofs.Common.{◌≡◌}
use Rattle.events.specs.Matches.{ask_each, walk_pat}
use Rattle.scene.specs.Below.{ListBelow}
use Rattle.scene.specs.Parts.{view_subs}
use Rattle.scene.specs.Scenes.{setting}
use Rattle.events.proofs.matches.+walk_pat.Given as goal

abbrev pub decreases-walk_pat : goal.decreases-walk_pat
decreases-walk_pat g l = l.n

abbrev pub invariant-loop-sub : goal.invariant-loop-sub
invariant-loop-sub g l =
    let ask = walk_pat (setting g.W.World.means g.I.Inner.tells l.scene) in
    (ask_each ask (view_subs l.sub-iterator) l.inside l.asked ≡ ask_each ask (view_subs l.initial.sub-iterator) l.inside l.initial.asked) × ListBelow l.n (view_subs l.sub-iterator)
