-- What a walk is told from outside: the captures of other closures, and whether their types are Copy.
use Rattle.std.specs.Prelude.{ℕ, Bool, List, [], Option}
use Rattle.scale.specs.declared.modes.Mode.{Mode}
use Rattle.scale.specs.declared.modes.Mode.TheVariants.{Imm}
use Rattle.place.specs.declared.uses.Capture.{Capture}
use Rattle.place.specs.Places.{Spot, spot}

-- a captured place and its mode
pub record Held : Type 0 where
  pub place : Spot
  pub mode : Mode

-- by the number of the closure: its captures in their order, and whether its type is Copy (none: not analysed)
pub record Told : Type 0 where
  pub captured : ℕ → List Held
  pub copied : ℕ → Option Bool

abbrev pub held : Capture Mode → Held
held c = record { place = spot c.place; mode = c.mode.value }

-- what stands behind the last capture
abbrev pub nothing_held : Held
nothing_held = record { place = record { binding = 0; path = [] }; mode = Imm }
