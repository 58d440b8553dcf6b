use Rattle.std.proofs.Common.{◌≡◌, take}
use Rattle.std.specs.Iterator.Adapters.{take_source, take_count}
use Rattle.node.specs.Lists.{adjustments}
use Rattle.place.specs.Places.{spot}
use Rattle.scene.specs.Places.{apply_adjusts}
use Rattle.scene.proofs.places.apply_adjusts.Given as goal

abbrev pub invariant-loop-adjust : goal.invariant-loop-adjust
invariant-loop-adjust l =
    apply_adjusts (take (take_count l.adjust-iterator) (adjustments (take_source l.adjust-iterator).bytes.now)) (spot l.at)
    ≡ apply_adjusts (take l.count (adjustments l.adjusts.bytes.now)) (spot l.fn.place)
