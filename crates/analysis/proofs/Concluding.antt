-- From the uses that a walk recorded to what is found.
use Rattle.std.proofs.Common.{◌≡◌, ℕ, ◌≤◌, List, [], ◌++◌, map, length, take, drop, IsErrAnd, Ok, Err, Option, Result, sym, ap, ◌∙◌, ap₂, arith}
use Rattle.std.proofs.lemmas.List.{length-append, take-append-le, take-append-drop}
use Rattle.std.proofs.lemmas.Result.{err_from_is_err_and}
use Rattle.scale.specs.declared.modes.Kind.{Kind}
use Rattle.scale.specs.declared.modes.Mode.{Mode}
use Rattle.place.specs.declared.uses.Use.{Use}
use Rattle.narrow.specs.Views.{view}
use Rattle.scene.specs.declared.faults.WalkFault.{WalkFault}
use Rattle.events.specs.Events.{play, Recorded}
use Rattle.scene.specs.Scenes.{Setting}
use Rattle.walk.specs.Walks.{uses_of}
use Rattle.analysis.specs.declared.findings.Findings.{Findings}
use Rattle.analysis.specs.Answers.{Answered, Analysed}
use Rattle.analysis.specs.Findings.{Finding, each, reach_use, captures_in, narrow_all, find_from, finding}

module _ (s : Setting) (preset : Option Kind) where
  -- with further rows behind
  further : (found : Result Finding WalkFault) (front tail : List (Use Mode)) (r : Result Findings WalkFault) → Answered s found front r → Answered s found (front ++ tail) r
  further found front tail (Err f) h = record { fits = tt; finds = h.finds }
  further found front tail (Ok a) h = record {
    fits = let le : a.uses ≤ length front = h.fits in simp length-append (omega arith);
    finds = h.finds ∙ ap {B = Result Finding WalkFault} (λ l. Ok (record { uses = map view l; kind = a.kind; captures = captures_in s (map view l); copies = a.copies })) (sym (take-append-le a.uses front tail h.fits));
  }

  -- the walk was refused
  pub walk_refused : (before after : List (Use Mode)) (f : WalkFault) (r : Result Findings WalkFault) → Recorded (uses_of s) before after (Err f) → IsErrAnd r (λ y. y ≡ f) → Analysed s preset before after r
  walk_refused before after f r w h =
      let p = err_from_is_err_and r h in
      let us = (play (length before) (uses_of s) []).0 in
      rw (p.1, p.2) (record { same = w.same; answers = record { fits = tt; finds = ap (λ q. find_from s preset (us, q)) w.plays } })

  pub walk_done :
      (before mid front : List (Use Mode)) (n k : ℕ) (r : Result Findings WalkFault) →
      Recorded (uses_of s) before mid (Ok n) →
      k ≡ n →
      length front ≡ length (take k mid) →
      Answered s (narrow_all s preset (each (reach_use s) (map view (take k mid)))) front r →
      Analysed s preset before (front ++ drop k mid) r
  walk_done before mid front n k r w e l h =
      let found : finding s preset (length before) ≡ narrow_all s preset (each (reach_use s) (map view (take k mid))) =
      ap₂ (λ us q. find_from s preset (us, q)) (w.plays.1 ∙ ap (λ j. map view (take j mid)) (sym e)) w.plays.0 in
      let all : length (take k mid ++ drop k mid) ≡ length mid = ap length (take-append-drop k mid) in
      let same : length (front ++ drop k mid) ≡ length before = omega (arith, w.same, l, all, length-append front (drop k mid), length-append (take k mid) (drop k mid)) in
      record { same = same; answers = rw found (further (narrow_all s preset (each (reach_use s) (map view (take k mid)))) front (drop k mid) r h) }
