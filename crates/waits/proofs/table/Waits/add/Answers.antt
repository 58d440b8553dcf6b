use Rattle.std.proofs.Common.{◌||◌, eqb, ◌∙◌, arith}
use Rattle.std.proofs.lemmas.Bool.{both_ways}
use Rattle.std.proofs.lemmas.List.{get_or_default}
use Rattle.waits.specs.Words.{has}
use Rattle.waits.proofs.Tables.{acyclic_one, waits_set}
use Rattle.waits.proofs.table.Waits.add.Goals as goal

pub invariant_of-self : goal.invariant_of-self
invariant_of-self c = record {
  acyclic =
      acyclic_one _ _ _ _
      (waits_set c.args.self.now.sets c.c.inside.0 c.args.d c.with.result (omega arith)
      (λ b. c.with.ensures b ∙ (λ p. has (get_or_default c.args.self.now.sets c.c.inside.0 c.index-self-at.result 0 (omega arith) p) b || eqb b c.args.d)) c.args.c c.c.view_is)
      (λ r. both_ways c.contains.result c.if-contains.false (c.contains.ensures ∙ c.reached.ensures.whole _ r)) c.args.self.now.acyclic;
}
