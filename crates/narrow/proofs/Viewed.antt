-- From what the rules see of a use back to the use.
use Rattle.std.proofs.Common.{◌≡◌, ap, ap₂}
use Rattle.scale.specs.declared.modes.Mode.{Mode}
use Rattle.scale.specs.declared.sited.Sited.{Sited}
use Rattle.place.specs.declared.uses.Use.{Use}
use Rattle.place.specs.Places.{Spot}
use Rattle.place.proofs.Views.{place_one}
use Rattle.narrow.specs.Views.{view}

pub view_one : (u v : Use Mode) → view u ≡ view v → u ≡ v
view_one u v e =
    ap₂ {C = Use Mode} (λ p x. record { place = p; mode = x }) (place_one u.place v.place (ap {B = Spot} (λ s. record { binding = s.binding; path = s.path }) e)) (ap {B = Sited Mode} (λ s. record { value = s.mode; site = s.site }) e)
