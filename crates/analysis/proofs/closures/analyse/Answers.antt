use Rattle.std.proofs.Common.{◌-◌, arith}
use Rattle.scene.specs.Scenes.{setting}
use Rattle.analysis.proofs.Concluding.{walk_done}
use Rattle.analysis.proofs.closures.analyse.Goals as goal

pub returns : goal.returns
returns g c =
    let s = setting g.W.World.means g.I.Inner.tells c.args.scene.now in
    let n = c.in_ok-count.count in
    walk_done s c.args.preset c.args.uses.now c.uses_of.new.uses c.narrow_all.new.uses n (n - 0) c.narrow_all.result c.in_ok-count.ensures (omega arith) c.narrow_all.auto.uses c.narrow_all.ensures
