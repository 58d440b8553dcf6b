use Rattle.std.proofs.Common.{◌≡◌, ◌-◌, length}
use Rattle.body.specs.Answers.{outward, lies_around}
use Rattle.body.specs.Bodies.{body_of}
use Rattle.body.proofs.bodies.Body.lies_around.Given as goal

abbrev pub invariant-loop-passed : goal.invariant-loop-passed
invariant-loop-passed l = outward (length (body_of l.self).closures - l._passed) (body_of l.self) l.outer l.home ≡ lies_around (body_of l.self) l.outer l.inner
