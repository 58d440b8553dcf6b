use Rattle.std.proofs.Common.{◌≡◌, map}
use Rattle.narrow.specs.Views.{view}
use Rattle.scene.specs.Scenes.{setting}
use Rattle.analysis.specs.Findings.{each, reach_use}
use Rattle.analysis.proofs.Replacing.{replacing}
use Rattle.analysis.proofs.reaching.reach_all.Given as goal

abbrev pub invariant-loop-used : goal.invariant-loop-used
invariant-loop-used g l =
    let s = setting g.W.World.means g.I.Inner.tells l.scene in
    replacing view (reach_use s) l.uses l.used-index ≡ each (reach_use s) (map view l.initial.uses)
