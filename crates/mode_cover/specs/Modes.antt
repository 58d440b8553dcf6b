-- The captures of a list of uses by capture modes, in a world of meaning m, where types gives each binding's type.
use Rattle.std.specs.Prelude.{ℕ, List, Option}
use Rattle.world.specs.Meaning.{Meaning}
use Rattle.scale.specs.Modes.{mode_leq}
use Rattle.scale.specs.declared.modes.Mode.{Mode}
use Rattle.scale.specs.declared.modes.Mode.TheVariants.{Imm}
use Rattle.place.specs.Places.{Spot, lies_under}
use Rattle.narrow.specs.Narrowing.{cut_to, Used as Narrowed}
use Rattle.cover.specs.Cover.{Used, Captured, captures, capture_opened}

abbrev pub captures_by_mode : Meaning → (ℕ → ℕ) → List (Used Spot Mode) → List (Captured Spot Mode)
captures_by_mode m types us = captures lies_under (cut_to m types) Imm mode_leq us

-- the capture that the i-th use opens, if any
abbrev pub opened_by_mode : Meaning → (ℕ → ℕ) → List (Used Spot Mode) → ℕ → Option (Captured Spot Mode)
opened_by_mode m types us i = capture_opened lies_under (cut_to m types) Imm mode_leq us i

-- a narrowed use as the cover sees it
abbrev pub from_narrowed : Narrowed → Used Spot Mode
from_narrowed u = record {
  place = record { binding = u.binding; path = u.path };
  mode = record { value = u.mode; site = u.site };
}
