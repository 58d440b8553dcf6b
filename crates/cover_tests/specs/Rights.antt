-- The order of rights: look < set < take.
use Rattle.std.specs.Prelude.{ℕ, Bool, nat_le}
use Rattle.cover_tests.specs.declared.rights.Right.{Right}
use Rattle.cover_tests.specs.declared.rights.Right.TheVariants.{Look, Set, Take}

abbrev pub right_rank : Right → ℕ
right_rank Look = 0
right_rank Set = 1
right_rank Take = 2

abbrev pub right_leq : Right → Right → Bool
right_leq x y = nat_le (right_rank x) (right_rank y)
