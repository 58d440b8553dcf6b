use Rattle.std.proofs.Common.{◌≡◌, drop}
use Rattle.scene.specs.Scenes.{setting}
use Rattle.events.specs.Captures.{inner_captures}
use Rattle.events.proofs.Plays.{Onward}
use Rattle.events.proofs.recorder.Recorder.capture_inner.Given as goal

abbrev pub invariant-loop-at : goal.invariant-loop-at
invariant-loop-at g l =
    let s = setting g.W.World.means g.I.Inner.tells l.initial.self.scene.now in
    let hs = s.told.captured l.closure in
    (l.self.scene ≡ l.initial.self.scene)
    × Onward (inner_captures s l.n hs) (inner_captures s l.n (drop l.at hs)) l.initial.self l.self
