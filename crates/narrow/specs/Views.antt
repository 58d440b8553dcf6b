-- A use of the code as the rules see it.
use Rattle.scale.specs.declared.modes.Mode.{Mode}
use Rattle.place.specs.declared.uses.Use.{Use}
use Rattle.place.specs.Places.{steps_of}
use Rattle.narrow.specs.Narrowing.{Used}

abbrev pub view : Use Mode → Used
view u = record { binding = u.place.binding; path = steps_of u.place.path; mode = u.mode.value; site = u.mode.site }
