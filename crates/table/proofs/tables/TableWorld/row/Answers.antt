use Rattle.std.proofs.Common.{Some, ap, ◌∙◌, rules, tests}
use Rattle.reader.specs.Types.{type_of}
use Rattle.table.proofs.Rowing.{row_none, row_some}
use Rattle.table.proofs.tables.TableWorld.row.Goals as goal

pub returns-in_err-offset : goal.returns-in_err-offset
returns-in_err-offset c =
    let w = c.args.self.now in
    rw c.from_residual-in_err-offset.ensures (row_none w.file.now w.offsets.now c.args.t c.in_ok-index.index (search (rules, tests)) (search (rules, tests)))

pub returns : goal.returns
returns c =
    let w = c.args.self.now in
    ap Some (c.of.ensures ∙ ap type_of c.payload_at.ensures)
    ∙ row_some w.file.now w.offsets.now c.args.t c.in_ok-index.index c.in_ok-offset.offset.now (search (rules, tests)) (search (rules, tests)) (search (rules, tests))
