use Rattle.std.proofs.lemmas.Bool.{both_ways}
use Rattle.closures.proofs.Staging.{stage_open, below_open, sums_open}
use Rattle.closures.proofs.table.Closures.new.Goals as goal

pub invariant_of-result : goal.invariant_of-result
invariant_of-result c = record {
  few = c.requires;
  inside = λ a b h. absurd (both_ways _ (λ p. c.new.ensures p a b) h);
  below = below_open 64;
  sums = sums_open 64 c.args.count;
}

pub returns-clause-ledger : goal.returns-clause-ledger
returns-clause-ledger c = λ p. record { stage = λ x. stage_open 64 x p; waits = c.new.ensures p }
