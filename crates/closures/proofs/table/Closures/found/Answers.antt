use Rattle.std.proofs.Common.{ap, ◌∙◌}
use Rattle.closures.specs.declared.states.State.{State}
use Rattle.closures.specs.declared.states.State.TheVariants.{Open}
use Rattle.closures.specs.Ledger.{analysis_in}
use Rattle.closures.specs.Views.{stage_of}
use Rattle.closures.proofs.Staging.{within_filled}
use Rattle.closures.proofs.table.Closures.found.Goals as goal

pub returns-clause-within : goal.returns-clause-within
returns-clause-within c =
    let t = c.args.self.now in
    within_filled t.states t.filled c.in_ok-at.at c.analysis.result t.below
    (c.analysis.ensures ∙ ap (λ (s : State). analysis_in (stage_of s)) (c.in_ok-get.ensures.lookup.3.1 Open))
