-- Rows of the use table and of the capture table as the cover sees them, and the captures of such uses.
use Rattle.std.specs.Prelude.{ℕ, Bool, List, map, take, drop, Option}
use Rattle.place.specs.Places.{Spot, spot, lies_under}
use Rattle.place.specs.declared.uses.Use.{Use}
use Rattle.place.specs.declared.uses.Capture.{Capture}
use Rattle.cover.specs.Cover.{Used, Captured, captures, opens_next, capture_opened}

abbrev pub used : {S : Type 0} → Use S → Used Spot S
used u = record { place = spot u.place; mode = u.mode }

abbrev pub captured : {S : Type 0} → Capture S → Captured Spot S
captured c = record { place = spot c.place; mode = c.mode; first = c.first }

abbrev pub captures_of : {S : Type 0} → (Spot → Spot → S → S) → S → (S → S → Bool) → List (Use S) → List (Captured Spot S)
captures_of cut low leq uses = captures lies_under cut low leq (map used uses)

-- the place of the capture that the i-th use opens, if it opens one
abbrev pub place_opened : {S : Type 0} → List (Use S) → ℕ → Option Spot
place_opened uses i = opens_next lies_under (map used uses) (take i (map used uses)) (drop i (map used uses))

abbrev pub opened_of : {S : Type 0} → (Spot → Spot → S → S) → S → (S → S → Bool) → List (Use S) → ℕ → Option (Captured Spot S)
opened_of cut low leq uses i = capture_opened lies_under cut low leq (map used uses) i
