use Rattle.mode_cover.proofs.by_mode.cover_by_mode.Goals as goal

pub returns-clause-leaves : goal.returns-clause-leaves
returns-clause-leaves g c = rw c.lent.ensures at c.cover.ensures.leaves
