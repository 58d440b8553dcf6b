-- What is read of the capture table for an analysed closure.
use Rattle.std.proofs.Common.{◌≡◌, ◌+◌, ◌≤◌, List, [], ◌∷◌, map, length, take, drop, Some, sym, refl, ap, ◌∙◌, arith, length-drop}
use Rattle.std.proofs.lemmas.List.{length-take-le}
use Rattle.scale.specs.declared.modes.Mode.{Mode}
use Rattle.place.specs.declared.uses.Capture.{Capture}
use Rattle.cover.specs.Views.{captured}
use Rattle.scene.specs.Inner.{held}
use Rattle.closures.specs.declared.states.Analysis.{Analysis}
use Rattle.closures.specs.Ledger.{Stage, fresh, preset, analysed, analysis_in, staged}
use Rattle.record.specs.History.{captures_at, held_at}
use Rattle.record.specs.Reads.{read}

module _ (table : List (Capture Mode)) (a : Analysis) where
  abbrev pub rows_read : List (Capture Mode)
  rows_read = take a.count (drop a.from table)

  pub captures_read : (s : Stage Analysis) → Some a ≡ analysis_in s → captures_at (staged (read table) s) ≡ map captured rows_read
  captures_read fresh e = absurd (cc)
  captures_read (preset k) e = absurd (cc)
  captures_read (analysed b) e = let same : b ≡ a = cc in ap (λ (x : Analysis). map captured (take x.count (drop x.from table))) same

  pub length_read : a.from + a.count ≤ length table → length rows_read ≡ a.count
  length_read le = length-take-le a.count (drop a.from table) (simp length-drop (omega arith))

held_rows : (cs : List (Capture Mode)) → map held cs ≡ map held_at (map captured cs)
held_rows [] = refl
held_rows (c ∷ cs) = ap (λ hs. held c ∷ hs) (held_rows cs)

-- the captures of an analysed closure, as they are told
pub told_read : (table : List (Capture Mode)) (a : Analysis) (s : Stage Analysis) → Some a ≡ analysis_in s → map held (rows_read table a) ≡ map held_at (captures_at (staged (read table) s))
told_read table a s e = held_rows (rows_read table a) ∙ sym (ap (map held_at) (captures_read table a s e))
