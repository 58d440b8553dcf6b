use Rattle.std.proofs.Common.{refl, rules, tests}
use Rattle.std.proofs.lemmas.Iterator.Consumers.{YieldsList-from_first}
use Rattle.std.proofs.lemmas.Iterator.Search.{any_from_yields_List}
use Rattle.reader.specs.Operands.{spelled, view_left}
use Rattle.indexing.specs.Checks.{bad_operand}
use Rattle.indexing.proofs.check.any_bad.Goals as goal

pub returns : goal.returns
returns c =
    any_from_yields_List (bad_operand c.args.nodes.now c.args.bindings) c.any.new.self _ _ c.any.ensures.ran
    (YieldsList-from_first (λ x. x) (λ s. spelled (view_left s)) _ refl) (λ x b q k. search (rules, tests))
