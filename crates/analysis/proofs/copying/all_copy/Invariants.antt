use Rattle.std.proofs.Common.{◌≡◌, map, Some}
use Rattle.narrow.specs.Views.{view}
use Rattle.scene.specs.Scenes.{setting}
use Rattle.analysis.specs.Findings.{and_both, all_copy, captures_in}
use Rattle.analysis.proofs.Copies.{to_ask}
use Rattle.analysis.proofs.copying.all_copy.Given as goal

abbrev pub invariant-loop-i : goal.invariant-loop-i
invariant-loop-i g l =
    let s = setting g.W.World.means g.I.Inner.tells l.scene in
    and_both (Some l.copies) (to_ask s l.uses l.i) ≡ all_copy s (captures_in s (map view l.uses))
