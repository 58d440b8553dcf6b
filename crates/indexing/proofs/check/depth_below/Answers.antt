use Rattle.std.proofs.Common.{ℕ, max, refl, ◌∙◌, rules, tests}
use Rattle.std.proofs.lemmas.Iterator.Consumers.{YieldsList-from_first, fold_from_yields_List}
use Rattle.reader.specs.declared.operands.Operand.{Operand}
use Rattle.reader.specs.Operands.{spelled, view_left}
use Rattle.indexing.specs.Checks.{child_of, depth_of}
use Rattle.indexing.proofs.Operanding.{deepest_is}
use Rattle.indexing.proofs.check.depth_below.Goals as goal

pub returns : goal.returns
returns c =
    fold_from_yields_List _ (λ (d : ℕ) (o : Operand). max d (depth_of c.args.nodes.now (child_of o))) 0 c.fold.result c.fold.ensures.ran
    (YieldsList-from_first (λ x. x) (λ s. spelled (view_left s)) _ refl) (λ a x b q k. search (rules, tests))
    ∙ deepest_is c.args.nodes.now 0 (spelled (view_left c.args.operands))
