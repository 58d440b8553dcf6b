use Rattle.std.proofs.Common.{arith}
use Rattle.reader.proofs.EntryLemmas.{entry_at}
use Rattle.reader.proofs.entries.Entries.get.Goals as goal

pub returns : goal.returns
returns g c =
    entry_at g.T.Entry.all g.T.Entry.SIZE g.met.T.Entry.steps g.T.Default.is_default g.T.Entry.past g.met.T.Entry.defaults
    c.args.self.bytes.now c.args.at 18446744073709551615 (omega (arith, c.ranges.self)) c.first.result _
    (simp (c.behind.ensures, c.saturating_mul.ensures, c.SIZE.ensures) at c.first.ensures) c.unwrap_or_default.ensures
