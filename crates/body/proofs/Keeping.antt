-- What every record keeps holds of an opened body.
use Rattle.std.proofs.Common.{◌≡◌, ℕ, zero, suc, ◌<◌, length, Some, None, Ok, Err, Option, Result, refl, ap, subst, arith}
use Rattle.reader.specs.Reading.{State, Found, Answer, reads}
use Rattle.reader.proofs.Stepping.{Stepped, stepped}
use Rattle.reader.specs.declared.faults.ReaderFault.TheVariants as at_reader
use Rattle.indexing.specs.declared.faults.BodyFault.{BodyFault}
use Rattle.indexing.specs.declared.faults.BodyFault.TheVariants as fault
use Rattle.indexing.specs.Opening.{Draft, adds, scan, after, go_on, unless, misowned, astray, first_of, binding_rows, node_rows}

apart : {X : Type 0} → ◌≡◌ {A = ℕ} 0 1 → X
apart e = absurd (omega arith)

ok_same : (d e : Draft) → ◌≡◌ {A = Result Draft BodyFault} (Ok d) (Ok e) → d ≡ e
ok_same d e p = ap (λ (r : Result Draft BodyFault). elim r as (λ _. Draft) [ Ok x ↦ x | Err _ ↦ d ]) p

module _ (P : State → Draft → Type 0)
    (keeps : (n : ℕ) (s t : State) (d e : Draft) (f : Found) → Stepped n s f t → adds d f ≡ Ok e → P s d → P t e) where
  kept_by : (n : ℕ) (s : State) (d e : Draft) (more : State → Draft → Result Draft BodyFault)
      → ((f : Found) (t : State) (g : Draft) → Stepped n s f t → P t g → more t g ≡ Ok e → (u : State) × P u e)
      → P s d → after more d (reads n s).state (reads n s).answer ≡ Ok e → (u : State) × P u e
  kept_by n s d e more next p = answer (reads n s).answer refl
    where
      entered : (f : Found) → (reads n s).answer ≡ Ok (Some f) → (r : Result Draft BodyFault) → adds d f ≡ r
          → go_on more (reads n s).state r ≡ Ok e → (u : State) × P u e
      entered f a (Err x) q z = apart (cc)
      entered f a (Ok g) q z =
          let step = stepped n s f a in
          next f (reads n s).state g step (keeps n s (reads n s).state d g f step q p) z

      ended : (o : Option ℕ) → unless d o ≡ Ok e → (u : State) × P u e
      ended None z = (s, subst (P s) (ok_same d e z) p)
      ended (Some x) z = apart (cc)

      answer : (a : Answer) → (reads n s).answer ≡ a → after more d (reads n s).state a ≡ Ok e → (u : State) × P u e
      answer (Err x) q z = apart (cc)
      answer (Ok None) q z = ended (first_of (misowned (length d.closures) (binding_rows d)) (astray d.taken 1 (node_rows d))) z
      answer (Ok (Some f)) q z = entered f q (adds d f) refl z

  pub scan_keeps : (n : ℕ) (s : State) (d e : Draft) → P s d → scan n s d ≡ Ok e → (u : State) × P u e
  scan_keeps zero s d e p z = kept_by zero s d e (λ t g. Err (fault.Reader (at_reader.TooMany s.offset))) (λ f t g step h q. none step.room) p z
    where
      none : {X : Type 0} → 0 < 0 → X
      none l = absurd (omega arith)
  scan_keeps (suc n) s d e p z = kept_by (suc n) s d e (scan n) (λ f t g step h q. scan_keeps n t g e h q) p z
