use Rattle.std.proofs.Common.{◌+◌, ◌*◌}
use Rattle.scene.proofs.places.+place_of.Given as goal

abbrev pub decreases-place_of_expr : goal.decreases-place_of_expr
decreases-place_of_expr g l = l.n * 4 + 2

abbrev pub decreases-place_without_adjust : goal.decreases-place_without_adjust
decreases-place_without_adjust g l = l.n * 4 + 1

abbrev pub decreases-place_of_field : goal.decreases-place_of_field
decreases-place_of_field g l = l.n * 4

abbrev pub decreases-place_of_deref : goal.decreases-place_of_deref
decreases-place_of_deref g l = l.n * 4
