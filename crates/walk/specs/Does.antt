-- What a step of the walk does, of what the walk looks at and of the assignment mark.
use Rattle.std.specs.Prelude.{◌≡◌, Result}
use Rattle.world.specs.Meaning.{Meaning}
use Rattle.scene.specs.declared.faults.WalkFault.{WalkFault}
use Rattle.scene.specs.Inner.{Told}
use Rattle.scene.specs.Scenes.{Setting}
use Rattle.events.specs.declared.recorder.Recorder.{Recorder}
use Rattle.events.specs.Events.{Records}
use Rattle.walk.specs.declared.marks.Mark.{Mark}
use Rattle.walk.specs.Walks.{Marked}

-- it leaves the mark as it was, and records
abbrev pub Does : {W I : Type 0} → (W → Meaning) → (I → Told) → (Setting → Marked) → Recorder W I → Mark → Recorder W I → Mark → Result (Unit {0}) WalkFault → Type 0
Does means tells does a m b m' r = (m' ≡ m) × Records means tells (λ s. does s m.inside) a b r
