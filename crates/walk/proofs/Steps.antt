-- How steps of the walk are joined. What a step leaves as it was is told from the start: the mark m, and the scene of a.
use Rattle.std.proofs.Common.{◌≡◌, Bool, List, [], ◌∷◌, ◌++◌, IsErrAnd, Ok, Err, Result, ap, ◌∙◌, subst}
use Rattle.world.specs.Meaning.{Meaning}
use Rattle.scene.specs.declared.faults.WalkFault.{WalkFault}
use Rattle.scene.specs.Inner.{Told}
use Rattle.scene.specs.Scenes.{Setting, setting}
use Rattle.events.specs.declared.recorder.Recorder.{Recorder}
use Rattle.events.specs.Events.{Ran}
use Rattle.events.proofs.Recordings.{seen_from}
use Rattle.walk.specs.declared.marks.Mark.{Mark}
use Rattle.walk.specs.Does.{Does}
use Rattle.walk.specs.Walks.{Marked}
use Rattle.events.proofs.Plays.{Onward, ran_as, ran_seq, ran_stop, ran_exit, onward_step, onward_exit, onward_end}

abbrev Answer : Type 0
Answer = Result (Unit {0}) WalkFault

module _ {W I : Type 0} (means : W → Meaning) (tells : I → Told) where
  abbrev at : Recorder W I → Setting
  at a = setting means tells a.scene.now

  -- a part of what is done is done: whatever is left makes of b, all of it makes of a
  abbrev pub GoesOn : (all left : Setting → Marked) → Recorder W I → Mark → Recorder W I → Mark → Type 0
  GoesOn all left a m b n = (n ≡ m) × (b.scene ≡ a.scene) × Onward (all (at a) m.inside) (left (at a) m.inside) a b

  -- a step that begins where an earlier one ended
  onto : (f : Setting → Marked) (a b c : Recorder W I) (m n k : Mark) {r : Answer} → n ≡ m → b.scene ≡ a.scene → Does means tells f b n c k r → (k ≡ m) × (c.scene ≡ a.scene) × Ran (f (at a) m.inside) b c r
  onto f a b c m n k {r} e h x = (x.0 ∙ e, x.1.scene ∙ h, seen_from means tells (λ s. f s m.inside) a b c h (subst (λ (i : Mark). Ran (f (at b) i.inside) b c r) e x.1))

  module _ (f g : Setting → Marked) (a b : Recorder W I) (m n : Mark) where
    pub does_seq : (c : Recorder W I) (k : Mark) {r : Answer} → Does means tells f a m b n (Ok tt) → Does means tells g b n c k r → Does means tells (λ s i. f s i ++ g s i) a m c k r
    does_seq c k x y = let z = onto g a b c m n k x.0 x.1.scene y in (z.0, ran_seq x.1 z.2)

    pub does_stop : {e : WalkFault} → Does means tells f a m b n (Err e) → Does means tells (λ s i. f s i ++ g s i) a m b n (Err e)
    does_stop x = (x.0, ran_stop (g (at a) m.inside) x.1)

    -- the exit of a `?`
    pub does_exit : {e : WalkFault} {r : Answer} → Does means tells f a m b n (Err e) → IsErrAnd r (λ y. y ≡ e) → Does means tells (λ s i. f s i ++ g s i) a m b n r
    does_exit x h = (x.0, ran_exit (g (at a) m.inside) x.1 h)

    -- the same in other words
    pub does_as : {r : Answer} → f (at a) m.inside ≡ g (at a) m.inside → Does means tells f a m b n r → Does means tells g a m b n r
    does_as h x = (x.0, ran_as h x.1)

  -- Steps for each of a list, in its order: F is what is done of all of them, and f of one.
  module _ {X : Type 0} (F : Setting → List X → Marked) (f : Setting → X → Marked) (none : (s : Setting) (i : Bool) → F s [] i ≡ []) (some : (s : Setting) (x : X) (xs : List X) (i : Bool) → F s (x ∷ xs) i ≡ f s x i ++ F s xs i) where
    turn : {left more : List X} {x : X} → left ≡ x ∷ more → (s : Setting) (i : Bool) → F s left i ≡ f s x i ++ F s more i
    turn {left} {more} {x} e s i = ap (λ xs. F s xs i) e ∙ some s x more i

    module _ (all : List X) {left more : List X} {x : X} (a b c : Recorder W I) (m n k : Mark) (e : left ≡ x ∷ more) (h : GoesOn (λ s. F s all) (λ s. F s left) a m b n) where
      pub each_step : Does means tells (λ s. f s x) b n c k (Ok tt) → GoesOn (λ s. F s all) (λ s. F s more) a m c k
      each_step y = let z = onto (λ s. f s x) a b c m n k h.0 h.1 y in (z.0, z.1, onward_step (F (at a) more m.inside) h.2 (turn e (at a) m.inside) z.2)

      pub each_exit : {d : WalkFault} {r : Answer} → Does means tells (λ s. f s x) b n c k (Err d) → IsErrAnd r (λ y. y ≡ d) → Does means tells (λ s. F s all) a m c k r
      each_exit y r = let z = onto (λ s. f s x) a b c m n k h.0 h.1 y in (z.0, onward_exit (F (at a) more m.inside) h.2 (turn e (at a) m.inside) z.2 r)

    pub each_end : (all : List X) {left : List X} (a b : Recorder W I) (m n : Mark) → left ≡ [] → GoesOn (λ s. F s all) (λ s. F s left) a m b n → Does means tells (λ s. F s all) a m b n (Ok tt)
    each_end all a b m n e h = (h.0, onward_end h.2 (ap (λ xs. F (at a) xs m.inside) e ∙ none (at a) m.inside))
