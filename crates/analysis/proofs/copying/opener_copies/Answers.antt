use Rattle.scene.specs.Scenes.{setting}
use Rattle.analysis.proofs.Copies.{opener_some, opener_none}
use Rattle.analysis.proofs.copying.opener_copies.Goals as goal

pub returns-in-Some : goal.returns-in-Some
returns-in-Some g c =
    let s = setting g.W.World.means g.I.Inner.tells c.args.scene.now in
    opener_some s c.args.uses.now c.args.i c.capture_by_mode.result c.capture_by_mode.ensures c.in-Some.capture c.capture_copies.result c.in-Some.is c.capture_copies.ensures

pub returns-in-None : goal.returns-in-None
returns-in-None g c =
    let s = setting g.W.World.means g.I.Inner.tells c.args.scene.now in
    opener_none s c.args.uses.now c.args.i c.capture_by_mode.result c.capture_by_mode.ensures c.in-None.is
