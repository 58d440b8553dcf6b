use Rattle.std.proofs.Common.{◌≡◌, map, None}
use Rattle.reader.specs.Numbers.{numbers}
use Rattle.node.specs.declared.lists.Arm.{Arm}
use Rattle.node.specs.Lists.{triples}
use Rattle.scale.specs.declared.modes.Mode.TheVariants.{Mut}
use Rattle.events.specs.Matches.{ask_each, walk_pat}
use Rattle.scene.specs.Scenes.{setting}
use Rattle.events.proofs.matches.match_mode.Given as goal

abbrev pub invariant-loop-arm : goal.invariant-loop-arm
invariant-loop-arm g l =
    let ask = walk_pat (setting g.W.World.means g.I.Inner.tells l.scene) in
    ask_each ask (map (λ (a : Arm). a.pat) (triples (numbers l.arm-iterator.bytes.now))) Mut l.asked ≡ ask_each ask (map (λ (a : Arm). a.pat) (triples (numbers l.arms.bytes.now))) Mut None
