use Rattle.std.proofs.Common.{◌≡◌, map}
use Rattle.narrow.specs.Narrowing.{before_dereference}
use Rattle.narrow.specs.Views.{view}
use Rattle.analysis.proofs.Replacing.{mapping}
use Rattle.analysis.proofs.reaching.stop_all.Given as goal

abbrev pub invariant-loop-used : goal.invariant-loop-used
invariant-loop-used l = mapping view (before_dereference l.by_move) l.uses l.used-index ≡ map (before_dereference l.by_move) (map view l.initial.uses)
