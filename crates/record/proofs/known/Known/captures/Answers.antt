use Rattle.std.proofs.Common.{◌≡◌, ◌+◌, ◌-◌, arith}
use Rattle.record.proofs.Reading.{told_read}
use Rattle.record.proofs.known.Known.captures.Goals as goal

pub returns-in-Some : goal.returns-in-Some
returns-in-Some c =
    let found = c.in-Some.found in
    let count : (found.from + found.count) - found.from ≡ found.count = omega arith in
    rw count (told_read c.args.self.now.table.now found _ c.in-Some.ensures.is)
