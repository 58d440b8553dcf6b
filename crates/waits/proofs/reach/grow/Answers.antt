use Rattle.std.proofs.Common.{sym, ◌∙◌, subst, arith}
use Rattle.std.proofs.lemmas.List.{get_or_default}
use Rattle.waits.proofs.Growth.{Grown, grown_skip, grown_more, grown_all}
use Rattle.waits.proofs.reach.grow.Goals as goal
use Rattle.waits.proofs.reach.grow.Goals.{then-contains, else-contains}

pub loop-i-preserved : goal.loop-i-preserved
loop-i-preserved c = elim c.if-contains.branch [
  | then-contains w ↦
      subst (Grown _ _ _) (sym w.all-is)
      (grown_more _ _ _ _ _ _ c.loop-i.invariant (sym c.contains.ensures ∙ w.if-contains.true)
      (get_or_default c.args.sets.now c.loop-i.i _ 0 (omega arith)) w.union-all.ensures.rises w.union-all.ensures.both)
  | else-contains w ↦ subst (Grown _ _ _) (sym w.all-is) (grown_skip _ _ _ _ c.loop-i.invariant (sym c.contains.ensures ∙ w.if-contains.false))
]

pub returns-clause-grows : goal.returns-clause-grows
returns-clause-grows c = grown_all _ _ _ _ c.loop-i.invariant (omega arith)
