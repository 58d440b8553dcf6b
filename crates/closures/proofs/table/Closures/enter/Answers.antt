use Rattle.std.proofs.Common.{◌≡◌, suc, ◌-◌, refl, arith}
use Rattle.waits.specs.Table.{waits_by}
use Rattle.closures.specs.Keeping.{state_in}
use Rattle.closures.proofs.Staging.{ledger_set, below_set, sums_set, no_rows}
use Rattle.closures.proofs.Resting.{closure_parts}
use Rattle.closures.proofs.table.Closures.enter.Goals as goal

pub invariant_of-self : goal.invariant_of-self
invariant_of-self c =
    let t = c.args.self.now in
    let lim = closure_parts t.count c.args.closure c.requires.named in
    let at : suc (c.args.closure - 1) ≡ c.args.closure = omega (arith, lim.0) in record {
      few = t.few;
      inside = t.inside;
      below = below_set t.states _ _ t.count _ _ _ (omega (arith, lim.0, lim.1, t.few)) at refl refl t.below;
      sums = sums_set t.states _ _ t.count _ _ _ (omega (arith, lim.0, lim.1, t.few)) at refl refl (omega (arith, lim.0, lim.1)) (no_rows (state_in t.states c.args.closure) c.requires.left) t.sums;
    }

pub returns-clause-ledger : goal.returns-clause-ledger
returns-clause-ledger c =
    let t = c.args.self.now in
    let lim = closure_parts t.count c.args.closure c.requires.named in
    ledger_set t.states (c.args.closure - 1) _ _ (omega (arith, lim.0, lim.1, t.few)) (omega (arith, lim.0)) (waits_by t.waits)
