-- What patterns ask for, one at a time.
use Rattle.std.proofs.Common.{◌≡◌, ℕ, ◌<◌, List, [], ◌∷◌, IsErrAnd, Ok, Err, Option, sym, refl, ap, ◌∙◌}
use Rattle.std.proofs.lemmas.Result.{err_from_is_err_and}
use Rattle.node.specs.Nodes.{PatAt}
use Rattle.body.specs.Sound.{Sound}
use Rattle.scale.specs.declared.modes.Mode.{Mode}
use Rattle.scene.specs.declared.faults.WalkFault.{WalkFault}
use Rattle.events.specs.Matches.{Asked, asks, ask_on, ask_each, mut_behind, walk_pat_step, walk_pat}
use Rattle.scene.specs.Below.{ListBelow}
use Rattle.scene.specs.Parts.{pat_at, sub_pats}
use Rattle.scene.specs.Recursion.{Local}
use Rattle.scene.specs.Scenes.{Setting}
use Rattle.scene.proofs.Recursing.{number_at}
use Rattle.scene.proofs.Under.{pat_below, subs_below}

-- the exit of a `?`
pub asked_exit : (r : Asked) {f : WalkFault} → IsErrAnd r (λ y. y ≡ f) → r ≡ Err f
asked_exit r e = let p = err_from_is_err_and r e in rw (p.1, p.2)

-- one of several patterns
pub ask_turn : (ask : ℕ → Mode → Option Mode → Asked) {ps more : List ℕ} {x : ℕ} (m : Mode) (so_far : Option Mode) {r : Asked} → ps ≡ x ∷ more → r ≡ ask x m so_far → ask_on r (ask_each ask more m) ≡ ask_each ask ps m so_far
ask_turn ask m so_far e h = rw (e, h) refl

pub ask_end : (ask : ℕ → Mode → Option Mode → Asked) {ps : List ℕ} (m : Mode) (so_far : Option Mode) → ps ≡ [] → Ok so_far ≡ ask_each ask ps m so_far
ask_end ask m so_far e = rw e refl

abbrev Ask : Type 0
Ask = Mode → Option Mode → Asked

module _ (s : Setting) (sound : Sound s.body) where
  each_local : (e f : ℕ → Ask) (n : ℕ) → ((c : ℕ) → c < n → e c ≡ f c) → (ps : List ℕ) → ListBelow n ps → (m : Mode) (r : Option Mode) → ask_each e ps m r ≡ ask_each f ps m r
  each_local e f n h [] b m r = refl
  each_local e f n h (p ∷ ps) b m r = rw (h p b.0) (on (f p m r) (λ y. each_local e f n h ps b.1 m y))
    where
      on : (x : Asked) → ((y : Option Mode) → ask_each e ps m y ≡ ask_each f ps m y) → ask_on x (ask_each e ps m) ≡ ask_on x (ask_each f ps m)
      on (Err g) k = refl
      on (Ok y) k = k y

  step_local : Local (walk_pat_step s)
  step_local n e f h = λ j m r. on m r (asks s (pat_at s.body n).form m r) j
    where
      on : (m : Mode) (r : Option Mode) (x : Asked)
          → ask_on x (ask_each e (sub_pats (pat_at s.body n).form) (mut_behind (pat_at s.body n).implicit m)) ≡ ask_on x (ask_each f (sub_pats (pat_at s.body n).form) (mut_behind (pat_at s.body n).implicit m))
      on m r (Err g) = refl
      on m r (Ok y) = each_local e f n h (sub_pats (pat_at s.body n).form) (subs_below n (pat_at s.body n).form (pat_below s.body sound n)) (mut_behind (pat_at s.body n).implicit m) y

  pub pat_asks : (n : ℕ) (m : Mode) (so_far : Option Mode) → walk_pat s n m so_far ≡ walk_pat_step s n (walk_pat s) m so_far
  unfolding walk_pat
  pat_asks n m so_far = ap (λ (a : Ask). a m so_far) (number_at (λ for_mut r. Ok r) (walk_pat_step s) step_local n)

  -- from the pattern as it was read
  pub pat_read : (n : ℕ) (x : PatAt) (m : Mode) (so_far : Option Mode) (r : Asked) → x ≡ pat_at s.body n → r ≡ asks s x.form m so_far
      → ask_on r (ask_each (walk_pat s) (sub_pats x.form) (mut_behind x.implicit m)) ≡ walk_pat s n m so_far
  pat_read n x m so_far r e h =
      ap (λ y. ask_on y (ask_each (walk_pat s) (sub_pats x.form) (mut_behind x.implicit m))) h
      ∙ ap (λ (y : PatAt). ask_on (asks s y.form m so_far) (ask_each (walk_pat s) (sub_pats y.form) (mut_behind y.implicit m))) e ∙ sym (pat_asks n m so_far)

  pub pat_read_on : (n : ℕ) (x : PatAt) (m : Mode) (so_far a : Option Mode) (vs : List ℕ) (inside : Mode) → x ≡ pat_at s.body n → Ok a ≡ asks s x.form m so_far → vs ≡ sub_pats x.form → inside ≡ mut_behind x.implicit m
      → ask_each (walk_pat s) vs inside a ≡ walk_pat s n m so_far
  pat_read_on n x m so_far a vs inside e h f g = (λ j. ask_each (walk_pat s) (f j) (g j) a) ∙ pat_read n x m so_far (Ok a) e h
