-- How runs of events are joined.
use Rattle.std.proofs.Common.{◌≡◌, ℕ, Bool, true, false, cond, ltb, List, [], ◌∷◌, ◌++◌, length, IsErrAnd, Ok, Err, Result, sym, refl, ap, ◌∙◌, subst, arith}
use Rattle.std.proofs.lemmas.Result.{err_from_is_err_and}
use Rattle.narrow.specs.Narrowing.{Used}
use Rattle.scene.specs.declared.faults.WalkFault.{WalkFault}
use Rattle.scene.specs.declared.faults.WalkFault.TheVariants.{NoRow}
use Rattle.events.specs.declared.recorder.Recorder.{Recorder}
use Rattle.events.specs.Events.{Event, puts, stops, play, uses_in, Ran}

abbrev Answer : Type 0
Answer = Result (Unit {0}) WalkFault

ok_not_err : {f : WalkFault} → ◌≡◌ {A = Answer} (Err f) (Ok tt) → ⊥
ok_not_err e = let z : ◌≡◌ {A = ℕ} 0 1 = cc in omega arith

pub play_seq : (rows : ℕ) (es fs : List Event) (xs ys : List Used) → play rows es xs ≡ (ys, Ok tt) → play rows (es ++ fs) xs ≡ play rows fs ys
play_seq rows [] fs xs ys h = ap (λ (p : List Used × Answer). play rows fs p.0) h
play_seq rows (stops f ∷ es) fs xs ys h = absurd (ok_not_err (ap (λ (p : List Used × Answer). p.1) h))
play_seq rows (puts u ∷ es) fs xs ys h = go (ltb (length xs) rows) (play_seq rows es fs (xs ++ u ∷ []) ys) h
  where
    go :
        (b : Bool) →
        (play rows es (xs ++ u ∷ []) ≡ (ys, Ok tt) → play rows (es ++ fs) (xs ++ u ∷ []) ≡ play rows fs ys) →
        cond b (play rows es (xs ++ u ∷ [])) (xs, Err NoRow) ≡ (ys, Ok tt) →
        cond b (play rows (es ++ fs) (xs ++ u ∷ [])) (xs, Err NoRow) ≡ play rows fs ys
    go true ih e = ih e
    go false ih e = absurd (ok_not_err (ap (λ (p : List Used × Answer). p.1) e))

pub play_stop : (rows : ℕ) (es fs : List Event) (xs ys : List Used) (f : WalkFault) → play rows es xs ≡ (ys, Err f) → play rows (es ++ fs) xs ≡ (ys, Err f)
play_stop rows [] fs xs ys f h = absurd (ok_not_err (sym (ap (λ (p : List Used × Answer). p.1) h)))
play_stop rows (stops g ∷ es) fs xs ys f h = h
play_stop rows (puts u ∷ es) fs xs ys f h = go (ltb (length xs) rows) (play_stop rows es fs (xs ++ u ∷ []) ys f) h
  where
    go :
        (b : Bool) →
        (play rows es (xs ++ u ∷ []) ≡ (ys, Err f) → play rows (es ++ fs) (xs ++ u ∷ []) ≡ (ys, Err f)) →
        cond b (play rows es (xs ++ u ∷ [])) (xs, Err NoRow) ≡ (ys, Err f) →
        cond b (play rows (es ++ fs) (xs ++ u ∷ [])) (xs, Err NoRow) ≡ (ys, Err f)
    go true ih e = ih e
    go false ih e = e

module _ {W I : Type 0} where
  ran_none : (a : Recorder W I) → Ran [] a a (Ok tt)
  ran_none a = record { scene = refl; kept = refl; same = refl; plays = refl }

  ran_fault : (a : Recorder W I) (f : WalkFault) → Ran (stops f ∷ []) a a (Err f)
  ran_fault a f = record { scene = refl; kept = refl; same = refl; plays = refl }

  module _ {es : List Event} {a b : Recorder W I} where
    pub ran_seq : {fs : List Event} {c : Recorder W I} {r : Answer} → Ran es a b (Ok tt) → Ran fs b c r → Ran (es ++ fs) a c r
    ran_seq {fs} {c} {r} x y = record {
      scene = y.scene ∙ x.scene;
      kept = y.kept ∙ x.kept;
      same = y.same ∙ x.same;
      plays = play_seq (length a.uses.now) es fs (uses_in a) (uses_in b) x.plays ∙ (rw x.same at y.plays);
    }

    pub ran_stop : (fs : List Event) {f : WalkFault} → Ran es a b (Err f) → Ran (es ++ fs) a b (Err f)
    ran_stop fs {f} x = record {
      scene = x.scene;
      kept = x.kept;
      same = x.same;
      plays = play_stop (length a.uses.now) es fs (uses_in a) (uses_in b) f x.plays;
    }

    -- the exit of a `?`
    pub ran_exit : (fs : List Event) {f : WalkFault} {r : Answer} → Ran es a b (Err f) → IsErrAnd r (λ y. y ≡ f) → Ran (es ++ fs) a b r
    ran_exit fs {r = r} x e = let p = err_from_is_err_and r e in rw (p.1, p.2) (ran_stop fs x)

  -- a refusal that is handed on
  pub ran_refused : (a : Recorder W I) {f : WalkFault} {r : Answer} → IsErrAnd r (λ y. y ≡ f) → Ran (stops f ∷ []) a a r
  ran_refused a {f} {r} e = let p = err_from_is_err_and r e in rw (p.1, p.2) (ran_fault a f)

  pub ran_as : {es fs : List Event} {a b : Recorder W I} {r : Answer} → es ≡ fs → Ran es a b r → Ran fs a b r
  ran_as {a = a} {b = b} {r = r} e x = subst (λ (l : List Event). Ran l a b r) e x

  -- Part of a run is done: whatever the events that are left make of the recorder b, all of them make of the recorder a.
  abbrev pub Onward : (all left : List Event) (a b : Recorder W I) → Type 0
  Onward all left a b = (c : Recorder W I) (r : Answer) → Ran left b c r → Ran all a c r

  module _ {all left es : List Event} (more : List Event) {a b c : Recorder W I} (h : Onward all left a b) (e : left ≡ es ++ more) where
    pub onward_step : Ran es b c (Ok tt) → Onward all more a c
    onward_step x d r y = h d r (rw e (ran_seq x y))

    pub onward_exit : {f : WalkFault} {r : Answer} → Ran es b c (Err f) → IsErrAnd r (λ y. y ≡ f) → Ran all a c r
    onward_exit {r = r} x z = h c r (rw e (ran_exit more x z))

  pub onward_end : {all left : List Event} {a b : Recorder W I} → Onward all left a b → left ≡ [] → Ran all a b (Ok tt)
  onward_end {b = b} h e = h b (Ok tt) (rw e (ran_none b))
