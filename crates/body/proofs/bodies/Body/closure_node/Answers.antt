use Rattle.std.proofs.Common.{arith}
use Rattle.body.specs.Bodies.{body_of}
use Rattle.body.proofs.Answering.{numbered_past, number_told}
use Rattle.body.proofs.bodies.Body.closure_node.Goals as goal

pub returns-then-number-eq0 : goal.returns-then-number-eq0
returns-then-number-eq0 c = numbered_past (body_of c.args.self.now).closures c.args.number c.closure_count-count.result c.closure_count-count.ensures c.then-number-eq0.either

pub returns : goal.returns
returns c =
    let b = c.args.self.now in
    number_told (body_of b).closures b.core.closures b.named c.args.number (omega arith) (omega (arith, c.closure_count-count.ensures))
