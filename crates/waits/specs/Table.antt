-- The table of waits of the code, as a relation between the numbers of closures.
use Rattle.std.specs.Prelude.{◌≡◌, ℕ, Bool, Ok, Err, Result}
use Rattle.waits.specs.declared.reach.Circle.{Circle}
use Rattle.waits.specs.declared.table.Waits.{Waits}
use Rattle.waits.specs.Words.{waits_in}
use Rattle.waits.specs.Reach.{Waiting, Reach, one_more}

-- whether a closure waits on another
abbrev pub waits_by : Waits → ℕ → ℕ → Bool
waits_by t = waits_in t.sets

-- a wait of c on d is added, or it would close a circle: d waits already, even through others, on c
abbrev pub Added : Waits → ℕ → ℕ → Result (Unit {0}) Circle → Waits → Type 0
Added t c d (Ok r) u = (Reach (Waiting (waits_by t)) d c → ⊥) × (waits_by u ≡ one_more (waits_by t) c d)
Added t c d (Err r) u = Reach (Waiting (waits_by t)) d c × (u ≡ t)
