-- What holds of every history that calls lead to from a new one.
use Rattle.std.specs.Prelude.{◌≡◌, ℕ, true, ◌↔◌, List, map}
use Rattle.scale.specs.declared.modes.Mode.{Mode}
use Rattle.scale.specs.declared.modes.Mode.TheVariants.{Imm}
use Rattle.scale.specs.Modes.{mode_leq}
use Rattle.place.specs.Places.{Spot, lies_under}
use Rattle.narrow.specs.Narrowing.{cut_to}
use Rattle.cover.specs.Cover.{Used}
use Rattle.cover.specs.Covering.{Covers, Same, ServedAlike, given}
use Rattle.mode_cover.specs.Modes.{from_narrowed}
use Rattle.waits.specs.Reach.{Waiting, Acyclic}
use Rattle.analysis.specs.Findings.{Finding}
use Rattle.closures.specs.Ledger.{analysed, is_analysed}
use Rattle.record.specs.History.{Grounds, History, types}

-- the narrowed uses of a closure, as the cover sees them
abbrev pub narrowed_uses : Finding → List (Used Spot Mode)
narrowed_uses f = map from_narrowed f.uses

pub record LawfulHistory (g : Grounds) (h : History) : Type 0 where
  -- analysed closures wait only on analysed ones
  pub rests : (c d : ℕ) → h.waits c d ≡ true → is_analysed (h.stage c) ≡ true → is_analysed (h.stage d) ≡ true
  -- no closure waits on itself, even through others
  pub acyclic : Acyclic (Waiting h.waits)
  -- the captures of an analysed closure are lawful, each of its narrowed uses lies under exactly one of them, which serves
  -- it, and whatever lawful list serves its narrowed uses serves its captures
  pub covers : (c : ℕ) (f : Finding) → h.stage c ≡ analysed f → Covers lies_under (cut_to g.means (types g)) Imm mode_leq (narrowed_uses f) f.captures
  -- two analysed closures capture the same places by the same modes, in whatever order, exactly when the same lawful lists
  -- serve the narrowed uses of both
  pub alike : (c d : ℕ) (e f : Finding) → h.stage c ≡ analysed e → h.stage d ≡ analysed f
      → Same (map given e.captures) (map given f.captures) ↔ ServedAlike lies_under (cut_to g.means (types g)) Imm mode_leq (narrowed_uses e) (narrowed_uses f)
