use Rattle.std.proofs.Common.{◌≡◌, ◌+◌, ◌-◌, ◌<◌, length, ap, ◌∙◌, inr, arith}
use Rattle.body.specs.Answers.{home_in, outward}
use Rattle.body.specs.Bodies.{body_of}
use Rattle.body.proofs.Answering.{outward_found, outward_on, outward_end}
use Rattle.body.proofs.bodies.Body.lies_around.Goals as goal

pub returns-then-home-eq0 : goal.returns-then-home-eq0
returns-then-home-eq0 c = outward_end _ (body_of c.args.self.now) c.args.outer c.loop-passed.home (inr c.if-home-eq0.true) ∙ c.loop-passed.invariant

pub returns-then-home-outer : goal.returns-then-home-outer
returns-then-home-outer c =
    let more : 0 < length (body_of c.args.self.now).closures - c.loop-passed._passed = omega (arith, c.closure_count-passed-end.ensures) in
    outward_found _ (body_of c.args.self.now) c.args.outer c.loop-passed.home more c.if-home-eq0.false c.if-home-outer.true ∙ c.loop-passed.invariant

pub loop-passed-preserved : goal.loop-passed-preserved
loop-passed-preserved c =
    let d = body_of c.args.self.now in let passed = c.loop-passed._passed in
    let more : 0 < length d.closures - passed = omega (arith, c.closure_count-passed-end.ensures) in
    let less : length d.closures - (passed + 1) ≡ length d.closures - passed - 1 = omega arith in
    ap (outward (length d.closures - (passed + 1)) d c.args.outer) c.home-home-in-loop-passed.ensures
    ∙ ap (λ k. outward k d c.args.outer (home_in d c.loop-passed.home)) less
    ∙ outward_on _ d c.args.outer c.loop-passed.home more c.if-home-eq0.false c.if-home-outer.false ∙ c.loop-passed.invariant
