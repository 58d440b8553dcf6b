-- The order of capture modes and the order of closure kinds, each by the rank of its cases.
use Rattle.std.specs.Prelude.{ℕ, Bool, nat_le}
use Rattle.std.proofs.Common.{rules}
use Rattle.scale.specs.Scales.{IsScale}
use Rattle.scale.specs.declared.modes.Mode.{Mode}
use Rattle.scale.specs.declared.modes.Mode.TheVariants.{Imm, Unique, Mut, Move}
use Rattle.scale.specs.declared.modes.Kind.{Kind}
use Rattle.scale.specs.declared.modes.Kind.TheVariants.{Fn, FnMut, FnOnce}

-- shared borrow < unique shared borrow < mutable borrow < by value
abbrev pub mode_rank : Mode → ℕ
mode_rank Imm = 0
mode_rank Unique = 1
mode_rank Mut = 2
mode_rank Move = 3

abbrev pub mode_leq : Mode → Mode → Bool
mode_leq x y = nat_le (mode_rank x) (mode_rank y)

pub mode_is_scale : IsScale Imm mode_leq
mode_is_scale = search rules

-- Fn < FnMut < FnOnce
abbrev pub kind_rank : Kind → ℕ
kind_rank Fn = 0
kind_rank FnMut = 1
kind_rank FnOnce = 2

abbrev pub kind_leq : Kind → Kind → Bool
kind_leq x y = nat_le (kind_rank x) (kind_rank y)

pub kind_is_scale : IsScale Fn kind_leq
kind_is_scale = search rules
