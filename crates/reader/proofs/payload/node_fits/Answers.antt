use Rattle.std.proofs.Common.{sym, ◌∙◌}
use Rattle.reader.proofs.Payloading.{behind_true}
use Rattle.reader.proofs.payload.node_fits.Goals as goal

pub returns-then-front_fits : goal.returns-then-front_fits
returns-then-front_fits c =
    behind_true _ _ _ (sym c.front_fits.ensures ∙ c.if-front_fits.true) (simp (c.again.ensures, c.head.ensures, c.operand_bytes.ensures) at c.fit.ensures)
