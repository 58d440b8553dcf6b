use Rattle.std.proofs.Common.{◌≡◌, ◌-◌}
use Rattle.place.specs.Places.{spot}
use Rattle.scene.specs.Places.{derefs_on}
use Rattle.scene.proofs.places.derefs_on.Given as goal

abbrev pub invariant-loop : goal.invariant-loop
invariant-loop l = derefs_on (l.count - l.counter) (spot l.at) ≡ derefs_on l.count (spot l.initial.at)
