-- What the analysis of a closure leaves in the record.
use Rattle.std.proofs.Common.{◌≡◌, ℕ, zero, suc, ◌+◌, ◌≤◌, Bool, true, false, cond, eqb, leb, List, [], ◌∷◌, map, length, take, drop, Ok, Err, Result, sym, refl, ap, ◌∙◌, subst, arith}
use Rattle.std.proofs.lemmas.List.{length-map}
use Rattle.scale.specs.declared.modes.Mode.{Mode}
use Rattle.place.specs.declared.uses.Capture.{Capture}
use Rattle.place.specs.declared.uses.Use.{Use}
use Rattle.place.specs.Places.{Spot}
use Rattle.narrow.specs.Views as narrow
use Rattle.cover.specs.Cover.{Used}
use Rattle.cover.specs.Views.{used, captured}
use Rattle.mode_cover.specs.Modes.{from_narrowed}
use Rattle.analysis.specs.Findings.{Finding}
use Rattle.closures.specs.declared.states.Analysis.{Analysis}
use Rattle.closures.specs.declared.states.State.{State}
use Rattle.closures.specs.declared.states.State.TheVariants.{Open, Preset, Analysed}
use Rattle.closures.specs.declared.table.Closures.{Closures}
use Rattle.closures.specs.Keeping.{state_in, rows, end, rows_kept}
use Rattle.closures.specs.Ledger.{analysed, staged, Ledger, kept_by, with_stage}
use Rattle.closures.specs.Views.{stage_of, ledger, count_of, filled_of}
use Rattle.closures.proofs.Staging.{total_same}
use Rattle.record.specs.declared.faults.RecordFault.{RecordFault}
use Rattle.record.specs.declared.faults.RecordFault.TheVariants.{Full}
use Rattle.record.specs.History.{Kept, kept, captures_at, filled, housed}
use Rattle.record.specs.Reads.{read}
use Rattle.record.specs.Steps.{Enters, room}
use Rattle.record.proofs.Reading.{length_read}

-- uses of the table as the cover sees them
pub as_narrowed : (us : List (Use Mode)) → map used us ≡ map from_narrowed (map narrow.view us)
as_narrowed [] = refl
as_narrowed (u ∷ us) = ap (λ (vs : List (Used Spot Mode)). used u ∷ vs) (as_narrowed us)

-- the rows that are filled are those that the captures fill
rows_length : (table : List (Capture Mode)) (s : State) → end s ≤ length table → rows s ≡ length (captures_at (staged (read table) (stage_of s)))
rows_length table Open le = refl
rows_length table (Preset k) le = refl
rows_length table (Analysed a) le = sym (length-map (take a.count (drop a.from table)) captured ∙ length_read table a le)

pub filled_read : (t : Closures) (table : List (Capture Mode)) → filled_of t ≤ length table → filled_of t ≡ filled (count_of t) (kept_by (read table) (ledger t))
filled_read t table le =
    t.sums ∙ total_same (rows_kept t.states) (λ c. length (captures_at (staged (read table) (stage_of (state_in t.states c))))) t.count
    (λ c. rows_length table (state_in t.states c) (omega (arith, t.below c)))

-- a part of a table that lies in the front
take_less : {A : Type 0} (n k : ℕ) (xs : List A) → n ≤ k → take n (take k xs) ≡ take n xs
take_less zero k xs le = refl
take_less (suc n) zero xs le = absurd (omega arith)
take_less (suc n) (suc k) [] le = refl
take_less {A} (suc n) (suc k) (x ∷ xs) le = ap (λ (ys : List A). x ∷ ys) (take_less n k xs (omega arith))

part_in : {A : Type 0} (m n k : ℕ) (xs : List A) → m + n ≤ k → take n (drop m (take k xs)) ≡ take n (drop m xs)
part_in zero n k xs le = take_less n k xs (omega arith)
part_in (suc m) n zero xs le = absurd (omega arith)
part_in (suc m) n (suc k) [] le = refl
part_in (suc m) n (suc k) (x ∷ xs) le = part_in m n k xs (omega arith)

pub part_front : {A : Type 0} (m n k : ℕ) (xs ys : List A) → m + n ≤ k → take k xs ≡ take k ys → take n (drop m xs) ≡ take n (drop m ys)
part_front {A} m n k xs ys le e = sym (part_in m n k xs le) ∙ ap (λ (zs : List A). take n (drop m zs)) e ∙ part_in m n k ys le

module _ (old table : List (Capture Mode)) (n : ℕ) (front : take n table ≡ take n old) where
  staged_front : (s : State) → end s ≤ n → staged (read table) (stage_of s) ≡ staged (read old) (stage_of s)
  staged_front Open le = refl
  staged_front (Preset k) le = refl
  staged_front (Analysed a) le = λ p. analysed (record { kind = a.kind; captures = map captured (part_front a.from a.count n table old le front p); copies = a.copies })

  entered_at : (b : Bool) (s : State) (a : Analysis) (k : Kept) → end s ≤ n → read table a ≡ k → staged (read table) (cond b (analysed a) (stage_of s)) ≡ cond b (analysed k) (staged (read old) (stage_of s))
  entered_at true s a k le e = λ p. analysed (e p)
  entered_at false s a k le e = staged_front s le

  pub view_entered : (t : Closures) (l : Ledger Analysis) (c : ℕ) (a : Analysis) (k : Kept) → filled_of t ≡ n → l ≡ with_stage (ledger t) c (analysed a) → read table a ≡ k
      → kept_by (read table) l ≡ with_stage (kept_by (read old) (ledger t)) c (analysed k)
  view_entered t l c a k e ll ka =
      ap (kept_by (read table)) ll
      ∙ (λ p. record { stage = λ x. entered_at (eqb x c) (state_in t.states x) a k (subst (λ (m : ℕ). end (state_in t.states x) ≤ m) e (t.below x)) ka p; waits = (ledger t).waits })

-- whether the captures find room
housed_with : (b : Bool) (f : Finding) (n c : ℕ) (e : RecordFault) → cond b (Ok n) (Err (Full c)) ≡ Err e → cond b (Ok f) (Err (Full c)) ≡ Err e
housed_with true f n c e h = absurd (cc)
housed_with false f n c e h = let q : Full c ≡ e = cc in ap Err q

pub housed_err : (f : Finding) (n left c : ℕ) (e : RecordFault) → n ≡ length f.captures → room n left c ≡ Err e → housed left c (Ok f) ≡ Err e
housed_err f n left c e len h = subst (λ (k : ℕ). cond (leb k left) (Ok f) (Err (Full c)) ≡ Err e) len (housed_with (leb n left) f n c e h)

roomy : (b : Bool) (f : Finding) (n m c : ℕ) → cond b (Ok n) (Err (Full c)) ≡ Ok m → (cond b (Ok f) (Err (Full c)) ≡ Ok f) × (m ≡ n) × (b ≡ true)
roomy true f n m c h = (refl, let q : n ≡ m = cc in sym q, refl)
roomy false f n m c h = absurd (cc)

pub housed_ok : (f : Finding) (n left c m : ℕ) → n ≡ length f.captures → room n left c ≡ Ok m → (housed left c (Ok f) ≡ Ok f) × (m ≡ n) × (leb n left ≡ true)
housed_ok f n left c m len h =
    let r = roomy (leb n left) f n m c h in
    (subst (λ (k : ℕ). cond (leb k left) (Ok f) (Err (Full c)) ≡ Ok f) len r.0, r.1, r.2)

module _ (v w : Ledger Kept) (c : ℕ) (x : Result Finding RecordFault) (r : Result (Unit {0}) RecordFault) where
  pub enters_err : (e : RecordFault) → x ≡ Err e → r ≡ Err e → w ≡ v → Enters c x v w r
  enters_err e is re same = subst (λ (y : Result Finding RecordFault). Enters c y v w r) (sym is) (re, same)

  pub enters_ok : (f : Finding) → x ≡ Ok f → r ≡ Ok tt → w ≡ with_stage v c (analysed (kept f)) → Enters c x v w r
  enters_ok f is re same = subst (λ (y : Result Finding RecordFault). Enters c y v w r) (sym is) (re, same)
