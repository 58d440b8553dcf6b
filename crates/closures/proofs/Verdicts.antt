-- What becomes of a request about the closure at a place of the table, which is not analysed.
use Rattle.std.proofs.Common.{◌≡◌, ℕ, suc, ◌<◌, ◌≤◌, Bool, true, false, List, length, get_or, set, None, Ok, Err, Result, sym, refl, ◌∙◌, subst, ⊎_elim, arith}
use lib.Seq.{set-get_or}
use Rattle.std.specs.Result.{MatchResult, IsErrAnd}
use Rattle.std.proofs.lemmas.Bool.{cases_Bool}
use Rattle.scale.specs.declared.modes.Kind.{Kind}
use Rattle.waits.specs.Words.{how_many}
use Rattle.waits.specs.Reach.{Waiting, Reach, Inside, one_more}
use Rattle.waits.specs.Table.{waits_by, Added}
use Rattle.waits.specs.declared.reach.Circle.{Circle}
use Rattle.waits.specs.declared.table.Waits.{Waits}
use Rattle.closures.specs.declared.faults.ClosureFault.{ClosureFault}
use Rattle.closures.specs.declared.requests.Request.{Request}
use Rattle.closures.specs.declared.requests.Request.TheVariants.{Depend, Preset, Analyse}
use Rattle.closures.specs.declared.states.Analysis.{Analysis}
use Rattle.closures.specs.declared.states.State.{State}
use Rattle.closures.specs.declared.states.State.TheVariants as state
use Rattle.closures.specs.Keeping.{state_in, rows}
use Rattle.closures.specs.Ledger.{Ledger, is_analysed}
use Rattle.closures.specs.Requests.{subject, Named, granted, Decided}
use Rattle.closures.specs.Views.{stage_of}
use Rattle.closures.proofs.Resting.{many_past}
use Rattle.closures.proofs.Staging.{ledger_set, no_rows}

pub not_analysed : (s : State) → ((a : Analysis) → s ≡ state.Analysed a → ⊥) → is_analysed (stage_of s) ≡ false
not_analysed state.Open h = refl
not_analysed (state.Preset k) h = refl
not_analysed (state.Analysed a) h = absurd (h a refl)

-- the closure k stands at the place i
module _ (n : ℕ) (ss : List State) (w : ℕ → ℕ → Bool) (i k : ℕ) (lt : i < length ss) (is : suc i ≡ k) (left : is_analysed (stage_of (get_or ss i state.Open)) ≡ false) where
  abbrev ledger_at : Ledger Analysis
  ledger_at = record { stage = λ x. stage_of (state_in ss x); waits = w }

  left_at : is_analysed (stage_of (state_in ss k)) ≡ false
  left_at = subst (λ (x : ℕ). is_analysed (stage_of (state_in ss x)) ≡ false) is left

  pub none_at : rows (state_in ss k) ≡ 0
  none_at = no_rows (state_in ss k) left_at

  left_by : (c : ℕ) → k ≡ c → is_analysed (stage_of (state_in ss c)) ≡ false
  left_by c at = subst (λ (x : ℕ). is_analysed (stage_of (state_in ss x)) ≡ false) at left_at

  module _ (q : Request) (at : k ≡ subject q) (named : Named n q) where
    pub preset_at : (c : ℕ) (kind : Kind) → q ≡ Preset c kind → Decided n ledger_at q (Ok None) (record { stage = λ x. stage_of (state_in (set ss i (state.Preset kind)) x); waits = w })
    preset_at c kind e = by q e at named
      where
        by : (r : Request) → r ≡ Preset c kind → k ≡ subject r → Named n r → Decided n ledger_at r (Ok None) (record { stage = λ x. stage_of (state_in (set ss i (state.Preset kind)) x); waits = w })
        by (Depend c' d') e' at' named' = absurd (cc)
        by (Preset c' kind') e' at' named' =
            let same : kind' ≡ kind = cc in
            (((named', left_by c' at'), (λ x. x), refl), refl, ledger_set ss i c' (state.Preset kind) lt (is ∙ at') w ∙ (λ p. granted ledger_at (Preset c' (sym same p))))
        by (Analyse c') e' at' named' = absurd (cc)

    pub depend_at : (c d kd : ℕ) (v : ℕ → ℕ → Bool) → q ≡ Depend c d → kd ≡ d → (Reach (Waiting w) kd k → ⊥) → v ≡ one_more w k kd
        → Decided n ledger_at q (Ok None) (record { stage = λ x. stage_of (state_in (set ss i (get_or ss i state.Open)) x); waits = v })
    depend_at c d kd v e to free more = by q e at named
      where
        by : (r : Request) → r ≡ Depend c d → k ≡ subject r → Named n r → Decided n ledger_at r (Ok None) (record { stage = λ x. stage_of (state_in (set ss i (get_or ss i state.Open)) x); waits = v })
        by (Depend c' d') e' at' named' =
            let same : d ≡ d' = cc in
            let to' : kd ≡ d' = to ∙ same in (
              ((named', left_by c' at'), (λ r. free (subst (λ (x : ℕ). Reach (Waiting w) x k) (sym to') (subst (λ (x : ℕ). Reach (Waiting w) d' x) (sym at') r))), refl),
              refl,
              λ p. record { stage = λ x. stage_of (state_in (set-get_or ss i state.Open p) x); waits = (more ∙ (λ t. one_more w (at' t) (to' t))) p },
            )
        by (Preset c' kind) e' at' named' = absurd (cc)
        by (Analyse c') e' at' named' = absurd (cc)

-- a wait that is granted was added
pub added_ok : (t u : Waits) (c d : ℕ) (r : Result (Unit {0}) Circle) (m : Result (Unit {0}) ClosureFault) (x : Unit {0}) (Q : Circle → ClosureFault → Type 0)
    → MatchResult r (λ y. m ≡ Ok y) (λ e. IsErrAnd m (Q e)) → m ≡ Ok x → Added t c d r u → (Reach (Waiting (waits_by t)) d c → ⊥) × (waits_by u ≡ one_more (waits_by t) c d)
added_ok t u c d (Ok y) m x Q h is a = a
added_ok t u c d (Err e) m x Q h is a = absurd (subst (λ (n : Result (Unit {0}) ClosureFault). IsErrAnd n (Q e)) is h)

pub counted : (w : ℕ → ℕ → Bool) (c n m : ℕ) → n ≤ m → Inside n (Waiting w) → how_many (w c) m ≡ how_many (w c) n
counted w c n m le inside = many_past (w c) n m le (λ x l. ⊎_elim (λ (h : w c x ≡ true). absurd (omega (arith, (inside c x h).1))) (λ (h : w c x ≡ false). h) (cases_Bool (w c x)))
