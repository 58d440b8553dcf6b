use Rattle.std.proofs.Common.{◌∙◌}
use Rattle.scene.specs.Scenes.{setting}
use Rattle.analysis.proofs.Copies.{ask_one}
use Rattle.analysis.proofs.copying.all_copy.Goals as goal

pub loop-i-preserved : goal.loop-i-preserved
loop-i-preserved g c =
    let s = setting g.W.World.means g.I.Inner.tells c.args.scene.now in
    let l = c.loop-i in
    ask_one s c.args.uses.now l.i l.copies c.loop-i-test.true c.in_ok-here.here c.in_ok-here.ensures ∙ l.invariant
