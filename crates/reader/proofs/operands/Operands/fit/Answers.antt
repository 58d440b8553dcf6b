use Rattle.std.proofs.Common.{sym, ◌∙◌}
use Rattle.reader.specs.Operands.{view_left}
use Rattle.reader.proofs.Operating.{fits_read}
use Rattle.reader.proofs.operands.Operands.fit.Goals as goal

pub loop-preserved : goal.loop-preserved
loop-preserved c =
    fits_read c.read.result (view_left c.loop.self) (view_left c.read.new.self) c.read.ensures.reads (sym c.is_some.ensures ∙ c.loop-test.true) ∙ c.loop.invariant
