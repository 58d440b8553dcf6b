use Rattle.std.proofs.Common.{◌≡◌, get_or, Some, sym, ◌∙◌, rules}
use Rattle.reader.specs.Classes.{class_of}
use Rattle.reader.proofs.Payloading.{known}
use Rattle.reader.proofs.payload.node_item.Goals as goal

pub returns-then-not-node_fits : goal.returns-then-not-node_fits
returns-then-not-node_fits c =
    let k : class_of (get_or c.args.payload.now 1 0) ≡ Some c.in_ok-class.class = known _ _ _ (sym c.in_ok-class.was ∙ c.try_from.ensures) in search rules

pub returns-then-is_closure : goal.returns-then-is_closure
returns-then-is_closure c =
    let k : class_of (get_or c.args.payload.now 1 0) ≡ Some c.in_ok-class.class = known _ _ _ (sym c.in_ok-class.was ∙ c.try_from.ensures) in search rules

pub returns-else-is_closure : goal.returns-else-is_closure
returns-else-is_closure c =
    let k : class_of (get_or c.args.payload.now 1 0) ≡ Some c.in_ok-class.class = known _ _ _ (sym c.in_ok-class.was ∙ c.try_from.ensures) in search rules
