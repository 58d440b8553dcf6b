-- From one turn of infer-all to the next.
use Rattle.std.proofs.Common.{◌≡◌, ℕ, zero, suc, ◌+◌, ◌-◌, ◌<◌, ◌≤◌, Bool, true, false, cond, eqb, List, [], length, drop, Some, Ok, Err, Result, sym, refl, ap, ◌∙◌, subst, inl, inr, ⊎_elim, arith}
use Rattle.std.proofs.lemmas.List.{drop-drop}
use Rattle.std.proofs.lemmas.Bool.{eq-eqb, cases_eq}
use Rattle.world.specs.Meaning.{Meaning}
use Rattle.body.specs.Bodies.{body_of}
use Rattle.analysis.specs.Findings.{Finding}
use Rattle.closures.specs.declared.requests.Request.TheVariants.{Analyse}
use Rattle.closures.specs.Keeping.{total}
use Rattle.closures.specs.Ledger.{Stage, fresh, preset, analysed, is_analysed, staged, Ledger, kept_by, is_closure, next_ready, with_stage}
use Rattle.closures.specs.Views.{ledger}
use Rattle.closures.proofs.Resting.{closure_parts}
use Rattle.record.specs.declared.faults.RecordFault.{RecordFault}
use Rattle.record.specs.declared.records.Record.{Record}
use Rattle.record.specs.History.{Grounds, History, Kept, kept, count, analysis_of, enters, Answers, Requested, Inferred, complete, stopped, onward}
use Rattle.record.specs.Reads.{read}
use Rattle.record.specs.Steps.{Stays, GoesOn}
use Rattle.record.specs.Views.{view, Agrees, grounds}
use Rattle.record.proofs.Agreeing.{next_same, done_agree, waits_agree}
use Rattle.record.proofs.Entries.{part_front}

-- lists that are the same behind some place are the same behind a later one
same_behind : {A : Type 0} (j k : ℕ) (xs ys : List A) → j ≤ k → drop j xs ≡ drop j ys → drop k xs ≡ drop k ys
same_behind j k xs ys le e =
    let at : j + (k - j) ≡ k = omega arith in
    ap (λ (n : ℕ). drop n xs) (sym at) ∙ sym (drop-drop (k - j) j xs) ∙ ap (drop (k - j)) e ∙ drop-drop (k - j) j ys ∙ ap (λ (n : ℕ). drop n ys) at

-- what two steps leave
pub stays_on : {W : Type 0} (a b c : Record W) → Stays a b → Stays b c → Stays a c
stays_on a b c s t = record {
  world = t.world ∙ s.world;
  body = t.body ∙ s.body;
  table = t.table ∙ s.table;
  rows = t.rows ∙ s.rows;
  rises = omega (arith, s.rises, t.rises);
  front = part_front 0 a.closures.filled b.closures.filled c.table.rows.now b.table.rows.now (omega (arith, s.rises)) t.front ∙ s.front;
  behind = t.behind ∙ same_behind b.closures.filled c.closures.filled b.table.rows.now a.table.rows.now t.rises s.behind;
}

pub grounds_stay : {W : Type 0} (means : W → Meaning) (a b : Record W) (m n : ℕ) → Stays a b → m ≡ n → grounds means b m ≡ grounds means a n
grounds_stay means a b m n s e = λ p. record { means = means (s.world p).now; body = body_of (s.body p).now; uses = e p; rows = s.rows p }

-- how many of the closures 1 to n are left to analyse
abbrev pub still_open : {A : Type 0} → ℕ → Ledger A → ℕ
still_open n l = total (λ c. cond (is_analysed (l.stage c)) 0 1) n

pub open_same : {A B : Type 0} (n : ℕ) (l : Ledger A) (m : Ledger B) → ((c : ℕ) → is_analysed (l.stage c) ≡ is_analysed (m.stage c)) → still_open n l ≡ still_open n m
open_same n l m done = λ p. total (λ c. cond (done c p) 0 1) n

total_le : (f g : ℕ → ℕ) (n : ℕ) → ((x : ℕ) → g x ≤ f x) → total g n ≤ total f n
total_le f g zero le = omega arith
total_le f g (suc n) le = omega (arith, total_le f g n le, le (suc n))

total_less : (f g : ℕ → ℕ) (k n : ℕ) → 1 ≤ k → k ≤ n → g k < f k → ((x : ℕ) → g x ≤ f x) → total g n < total f n
total_less f g k zero lo hi lt le = absurd (omega arith)
total_less f g k (suc n) lo hi lt le = ⊎_elim
    (λ (e : k ≡ suc n). let this : g (suc n) < f (suc n) = subst (λ (x : ℕ). g x < f x) e lt in omega (arith, total_le f g n le))
    (λ (e : k ≡ suc n → ⊥). omega (arith, total_less f g k n lo (omega arith) lt le, le (suc n)))
    (cases_eq k (suc n))

-- the analysis of one leaves fewer
pub open_less : {A : Type 0} (n c : ℕ) (l : Ledger A) (a : A) → is_closure n c ≡ true → is_analysed (l.stage c) ≡ false → still_open n (with_stage l c (analysed a)) < still_open n l
open_less {A} n c l a named left =
    let at = closure_parts n c named in
    let before : ◌≡◌ {A = ℕ} (cond (is_analysed (l.stage c)) 0 1) 1 = ap (λ (b : Bool). cond b 0 1) left in
    let after : ◌≡◌ {A = ℕ} (cond (is_analysed ((with_stage l c (analysed a)).stage c)) 0 1) 0 = ap (λ (b : Bool). cond (is_analysed (cond b (analysed a) (l.stage c))) 0 1) (eq-eqb c c refl) in
    total_less (λ x. cond (is_analysed (l.stage x)) 0 1) (λ x. cond (is_analysed ((with_stage l c (analysed a)).stage x)) 0 1) c n at.0 at.1 (omega (arith, before, after)) (λ x. by (eqb x c) (l.stage x))
  where
    by : (b : Bool) (s : Stage A) → cond (is_analysed (cond b (analysed a) s)) 0 1 ≤ cond (is_analysed s) 0 1
    by true s = omega arith
    by false s = omega arith

-- a history that a record agrees with
unkept : Kept → Finding
unkept k = record { uses = []; kind = k.kind; captures = k.captures; copies = k.copies }

pub some_history : (v : Ledger Kept) → (h : History) × (v ≡ kept_by kept h)
unfolding unkept
some_history v = (kept_by unkept v, λ p. record { stage = λ c. same (v.stage c) p; waits = v.waits })
  where
    same : (s : Stage Kept) → s ≡ staged kept (staged unkept s)
    same fresh = refl
    same (preset k) = refl
    same (analysed a) = refl

module _ (g : Grounds) (h : History) (c : ℕ) where
  -- a granted analysis is entered
  pub granted_analysis : (m : History) → Requested g h (Analyse c) (Ok tt) m → (is_closure (count g) c ≡ true) × (is_analysed (h.stage c) ≡ false) × (f : Finding) × (m ≡ with_stage h c (analysed f))
  granted_analysis m (inl t) = absurd (let e = t.2 in cc)
  granted_analysis m (inr q) = let f = by (analysis_of g (kept_by kept h) c) q.1 in (q.0.0.0, q.0.0.1, f.0, f.1)
    where
      by : (x : Result Finding RecordFault) → Answers g (enters g h c x) h (Ok tt) m → (f : Finding) × (m ≡ with_stage h c (analysed f))
      by (Ok f) a = (f, a.1)
      by (Err f) a = absurd (let e = a.0 in cc)

  -- a refusal leaves the history as it was
  pub refused_rests : (m : History) (f : RecordFault) → Requested g h (Analyse c) (Err f) m → m ≡ h
  refused_rests m f (inl t) = t.3
  refused_rests m f (inr q) = by (analysis_of g (kept_by kept h) c) q.1
    where
      by : (x : Result Finding RecordFault) → Answers g (enters g h c x) h (Err f) m → m ≡ h
      by (Ok f') a = absurd (let e = a.0 in cc)
      by (Err f') a = a.1

pub count_stay : {W : Type 0} (a b : Record W) → Stays a b → b.closures.count ≡ a.closures.count
count_stay {W} a b s = b.counts ∙ (λ p. length (body_of (s.body p).now).closures) ∙ sym a.counts

module _ {W : Type 0} (a : Record W) (h : History) (agree : Agrees a h) where
  same_done : (c : ℕ) → is_analysed ((ledger a.closures).stage c) ≡ is_analysed (h.stage c)
  same_done = done_agree (read a.table.rows.now) kept (ledger a.closures) h agree

  same_next : (n : ℕ) → next_ready n (ledger a.closures) ≡ next_ready n h
  same_next n = next_same n (ledger a.closures) h same_done (waits_agree (read a.table.rows.now) kept (ledger a.closures) h agree)

-- a granted analysis leaves fewer closures to analyse
pub turn_less : {W : Type 0} (means : W → Meaning) (a b : Record W) (n c : ℕ) → Stays a b → GoesOn (λ h m. Requested (grounds means a n) h (Analyse c) (Ok tt) m) a b
    → still_open b.closures.count (ledger b.closures) < still_open a.closures.count (ledger a.closures)
turn_less {W} means a b n c s goes =
    let w = some_history (view a) in
    let m = goes w.0 w.1 in
    let q = granted_analysis (grounds means a n) w.0 c m.0 m.1 in
    let named : is_closure a.closures.count c ≡ true = subst (λ (k : ℕ). is_closure k c ≡ true) (sym a.counts) q.0 in
    let less : still_open a.closures.count (with_stage w.0 c (analysed q.2)) < still_open a.closures.count w.0 = open_less a.closures.count c w.0 q.2 named q.1 in
    let before : still_open a.closures.count (ledger a.closures) ≡ still_open a.closures.count w.0 = open_same a.closures.count (ledger a.closures) w.0 (same_done a w.0 w.1) in
    let after : still_open b.closures.count (ledger b.closures) ≡ still_open a.closures.count (with_stage w.0 c (analysed q.2)) =
    ap (λ (k : ℕ). still_open k (ledger b.closures)) (count_stay a b s) ∙ open_same a.closures.count (ledger b.closures) m.0 (same_done b m.0 m.2) ∙ ap (still_open a.closures.count) q.3 in
    omega (arith, less, before, after)

-- the record b after some turns from a: what b is led to, a is led to
pub record Turned {W : Type 0} (means : W → Meaning) (n : ℕ) (a b : Record W) : Type 0 where
  pub leads : (h : History) → Agrees a h → (k : History) × ((r : Result (Unit {0}) RecordFault) (m : History) → Inferred (grounds means a n) k r m → Inferred (grounds means a n) h r m) × Agrees b k
  pub stays : Stays a b

module _ {W : Type 0} (means : W → Meaning) (n : ℕ) (a : Record W) where
  module _ (b : Record W) (turned : Turned means n a b) where
    next_of : (k : History) (c : ℕ) → Agrees b k → next_ready b.closures.count (ledger b.closures) ≡ Some c → next_ready (count (grounds means a n)) k ≡ Some c
    next_of k c agree e =
        subst (λ (m : ℕ). next_ready m k ≡ Some c) (count_stay a b turned.stays ∙ a.counts) (sym (same_next b k agree b.closures.count) ∙ e)

    -- all are analysed
    pub turned_last : ((c : ℕ) → is_closure b.closures.count c ≡ true → is_analysed ((ledger b.closures).stage c) ≡ true) → GoesOn (λ h m. Inferred (grounds means a n) h (Ok tt) m) a b
    turned_last all h agree =
        let k = turned.leads h agree in
        let done : (c : ℕ) → is_closure (count (grounds means a n)) c ≡ true → is_analysed (k.0.stage c) ≡ true =
        λ c named. sym (same_done b k.0 k.2 c) ∙ all c (subst (λ (m : ℕ). is_closure m c ≡ true) (sym (count_stay a b turned.stays ∙ a.counts)) named) in
        (k.0, k.1 (Ok tt) k.0 (complete done), k.2)

    module _ (d : Record W) (m c : ℕ) (same : m ≡ n) (next : next_ready b.closures.count (ledger b.closures) ≡ Some c) where
      at_start : (k l : History) (r : Result (Unit {0}) RecordFault) → Requested (grounds means b m) k (Analyse c) r l → Requested (grounds means a n) k (Analyse c) r l
      at_start k l r q = subst (λ (g : Grounds). Requested g k (Analyse c) r l) (grounds_stay means a b m n turned.stays same) q

      pub turned_more : Stays b d → GoesOn (λ h l. Requested (grounds means b m) h (Analyse c) (Ok tt) l) b d → Turned means n a d
      turned_more s goes = record {
        leads = λ h agree.
            let k = turned.leads h agree in
            let l = goes k.0 k.2 in
            (l.0, (λ r x i. k.1 r x (onward (next_of k.0 c k.2 next) (at_start k.0 l.0 (Ok tt) l.1) i)), l.2);
        stays = stays_on a b d turned.stays s;
      }

      pub turned_down : (f : RecordFault) → GoesOn (λ h l. Requested (grounds means b m) h (Analyse c) (Err f) l) b d → GoesOn (λ h l. Inferred (grounds means a n) h (Err f) l) a d
      turned_down f goes h agree =
          let k = turned.leads h agree in
          let l = goes k.0 k.2 in
          let rests = refused_rests (grounds means b m) k.0 c l.0 f l.1 in
          let q : Requested (grounds means a n) k.0 (Analyse c) (Err f) k.0 = at_start k.0 k.0 (Err f) (subst (λ (x : History). Requested (grounds means b m) k.0 (Analyse c) (Err f) x) rests l.1) in
          (k.0, k.1 (Err f) k.0 (stopped (next_of k.0 c k.2 next) q), subst (λ (x : History). Agrees d x) rests l.2)
