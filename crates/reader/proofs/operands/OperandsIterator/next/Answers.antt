use Rattle.reader.specs.Operands.{view_left}
use Rattle.reader.proofs.Operating.{gives, goes}
use Rattle.reader.proofs.operands.OperandsIterator.next.Goals as goal

pub returns-clause-steps : goal.returns-clause-steps
returns-clause-steps c = gives c.read.result (view_left c.args.self.now) (view_left c.read.new.self) c.read.ensures.reads c.read.ensures.stays

pub returns-clause-goes : goal.returns-clause-goes
returns-clause-goes c = goes c.read.result c.args.self.now c.read.new.self c.read.ensures.reads c.read.ensures.stays
