use Rattle.std.proofs.Common.{◌≡◌, ℕ, true, sym, ◌∙◌, subst, ⊎_elim}
use Rattle.std.proofs.lemmas.Bool.{eqb-true}
use Rattle.waits.specs.Words.{has}
use Rattle.waits.proofs.Growth.{only, itself, closed, reach_on}
use Rattle.waits.proofs.reach.reached.Goals as goal

pub loop-next-init : goal.loop-next-init
loop-next-init c = (only _ _ _ _ c.empty.ensures c.with-seen.ensures, itself _ _ _ c.with-seen.ensures)

pub returns-then-eq-clause-whole : goal.returns-then-eq-clause-whole
returns-then-eq-clause-whole c =
    let same = eqb-true c.grow-next.result c.loop-next.seen (sym c.eq.ensures ∙ c.if-eq.true) in
    λ d r. closed _ _ (λ a b h w. subst (λ (s : ℕ). has s b ≡ true) same (c.grow-next.ensures.grows a b h w)) _ d r c.loop-next.invariant.1

pub loop-next-preserved : goal.loop-next-preserved
loop-next-preserved c = (
  λ d h. ⊎_elim (c.loop-next.invariant.0 d) (λ p. reach_on (c.loop-next.invariant.0 p.0 p.1) p.2) (c.grow-next.ensures.sound d h),
  c.grow-next.ensures.keeps _ c.loop-next.invariant.1,
)
