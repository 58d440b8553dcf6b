-- From what the record keeps to the history that it agrees with.
use Rattle.std.proofs.Common.{◌≡◌, ℕ, Bool, true, false, cond, not, ◌&&◌, eqb, IfErr, Some, None, Ok, Err, Result, sym, refl, ap, ◌∙◌, subst}
use Rattle.waits.specs.Reach.{Waiting, Reach}
use Rattle.analysis.specs.Findings.{Finding}
use Rattle.closures.specs.declared.faults.ClosureFault.{ClosureFault}
use Rattle.closures.specs.declared.faults.ClosureFault.TheVariants as closure
use Rattle.closures.specs.declared.requests.Request.{Request}
use Rattle.closures.specs.declared.requests.Request.TheVariants.{Depend, Preset, Analyse}
use Rattle.closures.specs.declared.requests.Task.{Task}
use Rattle.closures.specs.Ledger.{Stage, fresh, preset, analysed, is_analysed, preset_in, staged, Ledger, kept_by, is_none, lowest, first_left, next_ready, with_stage}
use Rattle.closures.specs.Requests.{subject, Closes, held_up, Fits, Granted, Refused, granted, task_of}
use Rattle.record.specs.declared.faults.RecordFault.{RecordFault}
use Rattle.record.specs.History.{Grounds, History, Kept, kept, analysis_of, enters, entered, Answers}
use Rattle.record.specs.Steps.{Enters}

-- What is decided of a request goes by the stages of closures and their waits, whatever is kept of analyses.
module _ {A B : Type 0} (f : A → B) where
  pub done_kept : (s : Stage A) → is_analysed (staged f s) ≡ is_analysed s
  done_kept fresh = refl
  done_kept (preset k) = refl
  done_kept (analysed a) = refl

  pub preset_kept : (s : Stage A) → preset_in (staged f s) ≡ preset_in s
  preset_kept fresh = refl
  preset_kept (preset k) = refl
  preset_kept (analysed a) = refl

  through : (b : Bool) (s t : Stage A) → staged f (cond b s t) ≡ cond b (staged f s) (staged f t)
  through true s t = refl
  through false s t = refl

  -- a stage that is entered
  pub stage_kept : (l : Ledger A) (c : ℕ) (s : Stage A) → kept_by f (with_stage l c s) ≡ with_stage (kept_by f l) c (staged f s)
  stage_kept l c s = λ p. record { stage = λ x. through (eqb x c) s (l.stage x) p; waits = l.waits }

  pub granted_same : (l : Ledger A) (q : Request) → kept_by f (granted l q) ≡ granted (kept_by f l) q
  granted_same l (Depend c d) = refl
  granted_same l (Preset c k) = stage_kept l c (preset k)
  granted_same l (Analyse c) = refl

  pub task_kept : (l : Ledger A) (q : Request) → task_of (kept_by f l) q ≡ task_of l q
  task_kept l (Depend c d) = refl
  task_kept l (Preset c k) = refl
  task_kept l (Analyse c) = λ p. Some (record { closure = c; preset = preset_kept (l.stage c) p })

module _ {A B : Type 0} (n : ℕ) (l : Ledger A) (m : Ledger B) (done : (c : ℕ) → is_analysed (l.stage c) ≡ is_analysed (m.stage c)) (waits : l.waits ≡ m.waits) where
  left_same : (c : ℕ) → first_left n l c ≡ first_left n m c
  left_same c = λ p. lowest (λ d. waits p c d && not (done d p)) n

  pub next_same : next_ready n l ≡ next_ready n m
  next_same = λ p. lowest (λ c. not (done c p) && is_none (left_same c p)) n

  held_same : (q : Request) → held_up n l q ≡ held_up n m q
  held_same (Depend c d) = refl
  held_same (Preset c k) = refl
  held_same (Analyse c) = left_same c

  closes_to : (q : Request) → Closes n l q → Closes n m q
  closes_to (Depend c d) r = subst (λ (w : ℕ → ℕ → Bool). Reach (Waiting w) d c) waits r
  closes_to (Preset c k) r = r
  closes_to (Analyse c) r = r

  closes_from : (q : Request) → Closes n m q → Closes n l q
  closes_from (Depend c d) r = subst (λ (w : ℕ → ℕ → Bool). Reach (Waiting w) d c) (sym waits) r
  closes_from (Preset c k) r = r
  closes_from (Analyse c) r = r

  fits_to : (q : Request) → Fits n l q → Fits n m q
  fits_to q fits = (fits.0, sym (done (subject q)) ∙ fits.1)

  pub granted_to : (q : Request) → Granted n l q → Granted n m q
  granted_to q g = (fits_to q g.0, (λ r. g.1 (closes_from q r)), sym (held_same q) ∙ g.2)

  pub refused_to : (q : Request) (e : ClosureFault) → Refused n l q e → Refused n m q e
  refused_to q (closure.NoClosure x) r = r
  refused_to q (closure.Analysed x) r = (r.0, sym (done (subject q)) ∙ r.1, r.2)
  refused_to q (closure.Circle x) r = (fits_to q r.0, closes_to q r.1, r.2)
  refused_to q (closure.Waits x) r = (fits_to q r.0, sym (held_same q) ∙ r.1)
  refused_to q (closure.NotAnalysed x) r = r

pub done_agree : {A B C : Type 0} (f : A → C) (e : B → C) (l : Ledger A) (h : Ledger B) → kept_by f l ≡ kept_by e h → (c : ℕ) → is_analysed (l.stage c) ≡ is_analysed (h.stage c)
done_agree {A} {B} {C} f e l h agree c = sym (done_kept f (l.stage c)) ∙ ap (λ (v : Ledger C). is_analysed (v.stage c)) agree ∙ done_kept e (h.stage c)

pub waits_agree : {A B C : Type 0} (f : A → C) (e : B → C) (l : Ledger A) (h : Ledger B) → kept_by f l ≡ kept_by e h → l.waits ≡ h.waits
waits_agree {A} {B} {C} f e l h agree = ap (λ (v : Ledger C). v.waits) agree

-- the task of a request that asks for an analysis
pub task_analyse : {A : Type 0} (l : Ledger A) (q : Request) (t : Task) → task_of l q ≡ Some t → (q ≡ Analyse t.closure) × (t.preset ≡ preset_in (l.stage t.closure))
task_analyse l (Depend c d) t e = absurd (cc)
task_analyse l (Preset c k) t e = absurd (cc)
task_analyse l (Analyse c) t e = by t (cc)
  where
    by : (u : Task) → record { closure = c; preset = preset_in (l.stage c) } ≡ u → (Analyse c ≡ Analyse u.closure) × (u.preset ≡ preset_in (l.stage u.closure))
    by u same = (λ p. Analyse (same p).closure, sym (λ p. (same p).preset) ∙ (λ p. preset_in (l.stage (same p).closure)))

-- a request that asks for nothing more leads to what it makes of the history
pub nothing_answers : (g : Grounds) (l : Ledger Kept) (h : History) (q : Request) → task_of l q ≡ None → Answers g (entered g h q) h (Ok tt) (granted h q)
nothing_answers g l h (Depend c d) e = (refl, refl)
nothing_answers g l h (Preset c k) e = (refl, refl)
nothing_answers g l h (Analyse c) e = absurd (cc)

-- an analysis leads to the history with what it found, or stays
pub analyse_step : (g : Grounds) (h : History) (c : ℕ) (v w : Ledger Kept) (r : Result (Unit {0}) RecordFault) → v ≡ kept_by kept h → Enters c (analysis_of g v c) v w r
    → (m : History) × Answers g (entered g h (Analyse c)) h r m × (w ≡ kept_by kept m)
analyse_step g h c v w r agree e = by (analysis_of g (kept_by kept h) c) refl (subst (λ (u : Ledger Kept). Enters c (analysis_of g u c) u w r) agree e)
  where
    by : (x : Result Finding RecordFault) → analysis_of g (kept_by kept h) c ≡ x → Enters c (analysis_of g (kept_by kept h) c) (kept_by kept h) w r
        → (m : History) × Answers g (entered g h (Analyse c)) h r m × (w ≡ kept_by kept m)
    by (Ok f) is en =
        let en' : Enters c (Ok f) (kept_by kept h) w r = subst (λ (y : Result Finding RecordFault). Enters c y (kept_by kept h) w r) is en in (
          with_stage h c (analysed f),
          subst (λ (y : Result Finding RecordFault). Answers g (enters g h c y) h r (with_stage h c (analysed f))) (sym is) (en'.0, refl),
          en'.1 ∙ sym (stage_kept kept h c (analysed f)),
        )
    by (Err f) is en =
        let en' : Enters c (Err f) (kept_by kept h) w r = subst (λ (y : Result Finding RecordFault). Enters c y (kept_by kept h) w r) is en in
        (h, subst (λ (y : Result Finding RecordFault). Answers g (enters g h c y) h r h) (sym is) (en'.0, refl), en'.1)

-- what holds of a refusal
pub refusal_is : (r : Result (Unit {0}) RecordFault) (e : RecordFault) (P : Type 0) → r ≡ Err e → P → IfErr r (λ _. P)
refusal_is r e P is p = subst (λ (x : Result (Unit {0}) RecordFault). IfErr x (λ _. P)) (sym is) p

pub refusal_by : (r : Result (Unit {0}) RecordFault) (P Q : Type 0) → (P → Q) → IfErr r (λ _. P) → IfErr r (λ _. Q)
refusal_by (Ok u) P Q f p = tt
refusal_by (Err e) P Q f p = f p
