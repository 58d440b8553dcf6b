-- What a recorder records, seen from the scene that an earlier one had.
use Rattle.std.proofs.Common.{◌≡◌, List, Result, subst}
use Rattle.world.specs.Meaning.{Meaning}
use Rattle.scene.specs.declared.faults.WalkFault.{WalkFault}
use Rattle.scene.specs.Inner.{Told}
use Rattle.scene.specs.Scenes.{Setting, setting}
use Rattle.events.specs.declared.recorder.Recorder.{Recorder}
use Rattle.events.specs.Events.{Event, Ran, Records}

module _ {W I : Type 0} (means : W → Meaning) (tells : I → Told) where
  pub seen_from : (es : Setting → List Event) (a b c : Recorder W I) {r : Result (Unit {0}) WalkFault} → b.scene ≡ a.scene → Records means tells es b c r → Ran (es (setting means tells a.scene.now)) b c r
  seen_from es a b c {r} e x = subst (λ s. Ran (es (setting means tells s.now)) b c r) e x
