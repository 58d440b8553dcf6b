-- What an analysis comes to, from what was found and is shown at the front of the use table.
use Rattle.std.proofs.Common.{◌≡◌, ℕ, ◌-◌, ◌≤◌, List, map, length, take, IfOk, Ok, Err, Option, Result, sym, ap, ◌∙◌, subst}
use Rattle.std.specs.Result.{MatchResult, IsErrAnd}
use Rattle.std.proofs.lemmas.Bool.{leb-true}
use Rattle.std.proofs.lemmas.Result.{err_from_is_err_and}
use Rattle.scale.specs.declared.modes.Kind.{Kind}
use Rattle.scale.specs.declared.modes.Mode.{Mode}
use Rattle.place.specs.declared.uses.Use.{Use}
use Rattle.place.specs.Places.{Spot}
use Rattle.world.specs.Meaning.{Meaning}
use Rattle.cover.specs.Cover.{Captured}
use Rattle.cover.specs.Views.{used}
use Rattle.mode_cover.specs.Modes.{captures_by_mode}
use Rattle.scene.specs.Scenes.{Setting}
use Rattle.analysis.specs.declared.findings.Findings.{Findings}
use Rattle.scene.specs.declared.faults.WalkFault.{WalkFault}
use Rattle.analysis.specs.Answers.{front, shown, Analysed}
use Rattle.analysis.specs.Findings.{Finding, finding, captures_in}
use Rattle.closures.specs.Ledger.{preset_in}
use Rattle.record.specs.declared.faults.RecordFault.{RecordFault}
use Rattle.record.specs.declared.faults.RecordFault.TheVariants.{Walk}
use Rattle.record.specs.declared.records.Record.{Record}
use Rattle.record.specs.declared.records.Store.{Store}
use Rattle.record.specs.History.{Grounds, types, walked, housed, filled, count, analysis_of}
use Rattle.record.specs.Views.{view, grounds, setting}
use Rattle.record.specs.Steps.{room, Laid, Found}
use Rattle.record.proofs.Entries.{as_narrowed, filled_read, housed_err, housed_ok}

module _ {W : Type 0} (means : W → Meaning) (a : Record W) (rows c : ℕ) (table : List (Use Mode)) (found : Findings) where
  abbrev pub ground : Grounds
  ground = grounds means a rows

  abbrev pub setting_of : Setting
  setting_of = setting means a c

  abbrev pub finding_of : Finding
  finding_of = record { uses = front table found; kind = found.kind; captures = captures_in setting_of (front table found); copies = found.copies }

  -- the rows left in the capture table
  abbrev pub room_left : ℕ
  room_left = length a.table.rows.now - a.closures.filled

  -- the captures that are written
  abbrev pub captures_of_uses : List (Captured Spot Mode)
  captures_of_uses = captures_by_mode ground.means (types ground) (map used (take found.uses table))

  pub captures_found : captures_of_uses ≡ finding_of.captures
  captures_found = ap (captures_by_mode ground.means (types ground)) (as_narrowed (take found.uses table))

  pub analysis_is : (preset : Option Kind) → preset ≡ preset_in ((view a).stage c) → walked c (finding setting_of preset rows) ≡ shown setting_of table (Ok found)
      → analysis_of ground (view a) c ≡ housed room_left c (Ok finding_of)
  analysis_is preset asked finds =
      let rooms : room_left ≡ ground.rows - filled (count ground) (view a) =
      ap (λ (k : ℕ). length a.table.rows.now - k) (filled_read a.closures a.table.rows.now a.fits ∙ ap (λ (n : ℕ). filled n (view a)) a.counts) in
      let now : walked c (finding setting_of (preset_in ((view a).stage c)) rows) ≡ Ok finding_of = ap (λ (o : Option Kind). walked c (finding setting_of o rows)) (sym asked) ∙ finds in
      λ p. housed (sym rooms p) c (now p)

  -- the captures were written, or there was no room for them
  module _ (preset : Option Kind) (asked : preset ≡ preset_in ((view a).stage c)) (finds : walked c (finding setting_of preset rows) ≡ shown setting_of table (Ok found))
      (filled_rows : ℕ) (fills : filled_rows ≡ a.closures.filled) (b : Store) (r : Result ℕ RecordFault) (laid : Laid captures_of_uses filled_rows c a.table b r) where
    room_is : r ≡ room (length captures_of_uses) room_left c
    room_is = laid.answers ∙ ap (λ (k : ℕ). room (length captures_of_uses) (length a.table.rows.now - k) c) fills

    pub full_is : (e : RecordFault) → r ≡ Err e → analysis_of ground (view a) c ≡ Err e
    full_is e is = analysis_is preset asked finds ∙ housed_err finding_of (length captures_of_uses) room_left c e (ap length captures_found) (sym room_is ∙ is)

    pub roomy_is : (n : ℕ) → r ≡ Ok n → (analysis_of ground (view a) c ≡ Ok finding_of) × (n ≡ length captures_of_uses) × (length captures_of_uses ≤ room_left)
    roomy_is n is =
        let h = housed_ok finding_of (length captures_of_uses) room_left c n (ap length captures_found) (sym room_is ∙ is) in
        (analysis_is preset asked finds ∙ h.0, h.1, leb-true (length captures_of_uses) room_left h.2)

-- what is found, with a refusal of the walk told of the closure
pub found_by : (s : Setting) (preset : Option Kind) (before after : List (Use Mode)) (r : Result Findings WalkFault) (m : Result Findings RecordFault) (Q : WalkFault → RecordFault → Type 0)
    → Analysed s preset before after r → MatchResult r (λ x. m ≡ Ok x) (λ e. IsErrAnd m (Q e)) → ((e : WalkFault) (f : RecordFault) → Q e f → f ≡ Walk s.closure e) → Found s preset before after m
found_by s preset before after (Ok x) m Q a h refused = record {
  fits = subst (λ (y : Result Findings RecordFault). IfOk y (λ z. z.uses ≤ length after)) (sym h) a.answers.fits;
  finds = ap (walked s.closure) a.answers.finds ∙ (λ p. shown s after (sym h p));
}
found_by s preset before after (Err e) m Q a h refused =
    let f = err_from_is_err_and m h in
    let is : m ≡ Err (Walk s.closure e) = f.1 ∙ ap Err (refused e f.0 f.2) in
    record {
      fits = subst (λ (y : Result Findings RecordFault). IfOk y (λ z. z.uses ≤ length after)) (sym is) tt;
      finds = ap (walked s.closure) a.answers.finds ∙ (λ p. shown s after (sym is p));
    }
