-- What holds while the types of a file are read, record by record.
use Rattle.std.proofs.Common.{◌≡◌, ℕ, zero, suc, ◌+◌, ◌-◌, ◌<◌, ◌≤◌, Bool, true, false, cond, List, [], ◌∷◌, ◌++◌, map, length, take, drop, set, Some, None, Ok, Err, Option, sym, refl, ap, ◌∙◌, subst, add_assoc, arith}
use native.Mathlib.Nat.{sub-zero}
use Rattle.std.proofs.lemmas.List.{take_more_set, take-set-le, length-set, length_push, drop-drop, map-append}
use Rattle.reader.specs.declared.counts.Counts.{Counts}
use Rattle.reader.specs.declared.faults.ReaderFault.{ReaderFault}
use Rattle.reader.specs.declared.faults.ReaderFault.TheVariants.{TooMany}
use Rattle.reader.specs.declared.payload.Item.{Item}
use Rattle.reader.specs.declared.payload.Item.TheVariants as item
use Rattle.reader.specs.Counting.{one_more}
use Rattle.reader.specs.Pieces.{parse, payload_or, payload_at}
use Rattle.reader.specs.Reading.{State, start, Found, Answer, reads}
use Rattle.reader.specs.Types.{type_of}
use Rattle.reader.proofs.Parsing.{parse_length, parse_rest}
use Rattle.reader.proofs.Stepping.{Stepped, stepped, stayed, Tagged, tagged}
use Rattle.table.specs.Entries.{TypeEntry, Listing, with_item, with_record, after, scan, type_entries, entry_at}

-- after `count` records of a file, whose offsets are the first rows of the table
pub record Sofar (file : List ℕ) (room : ℕ) (s : State) (offsets : List ℕ) (count : ℕ) : Type 0 where
  pub entries : List TypeEntry
  pub whole : type_entries room file ≡ scan (room - count) s entries
  pub fits : count ≤ room
  pub long : length offsets ≡ room
  pub counted : s.counts.types ≡ length entries
  pub few : length entries ≤ count
  pub only_types : s.last < 2 → length entries ≡ count
  pub here : s.bytes ≡ drop s.offset file
  pub noted : map (entry_at file) (take (length entries) offsets) ≡ entries

pub begin : (file offsets : List ℕ) → Sofar file (length offsets) (start file) offsets 0
begin file offsets = record {
  entries = [];
  whole = ap (λ n. scan n (start file) []) (sym (sub-zero (length offsets)));
  fits = omega arith;
  long = refl;
  counted = refl;
  few = omega arith;
  only_types = λ _. refl;
  here = refl;
  noted = refl;
}

apart : {X : Type 0} → ◌≡◌ {A = ℕ} 0 1 → X
apart e = absurd (omega arith)

-- how many types there are with the record in
granted : (b : Bool) (x c : Counts) → cond b (Some x) None ≡ Some c → x.types ≡ c.types
granted true x c e = ap (λ (o : Option Counts). elim o as (λ _. ℕ) [ None ↦ x.types | Some y ↦ y.types ]) e
granted false x c e = apart (cc)

module _ (o : ℕ) (p : List ℕ) (es : List TypeEntry) where
  counted_next : (i : Item) (b c : Counts) → b.types ≡ length es → one_more b i ≡ Some c → c.types ≡ length (with_item i o p es)
  counted_next item.«Type» b c k e = sym (granted _ _ c e) ∙ ap (λ n. n + 1) k ∙ sym (length_push es _)
  counted_next item.Binding b c k e = sym (granted _ _ c e) ∙ k
  counted_next item.Node b c k e = sym (granted _ _ c e) ∙ k
  counted_next item.Closure b c k e = sym (granted _ _ c e) ∙ k

  few_next : (i : Item) (count : ℕ) → length es ≤ count → length (with_item i o p es) ≤ count + 1
  few_next item.«Type» count l = omega (arith, length_push es (record { offset = o; type = type_of p }))
  few_next item.Binding count l = omega arith
  few_next item.Node count l = omega arith
  few_next item.Closure count l = omega arith

  only_next : (i : Item) (count last tag : ℕ) → Tagged tag p i → last ≤ tag → (last < 2 → length es ≡ count) → tag < 2 → length (with_item i o p es) ≡ count + 1
  only_next item.«Type» count last tag t r k h = length_push es _ ∙ ap (λ n. n + 1) (k (omega arith))
  only_next item.Binding count last tag t r k h = absurd (omega arith)
  only_next item.Node count last tag t r k h = absurd (omega (arith, t.0))
  only_next item.Closure count last tag t r k h = absurd (omega (arith, t.0))

  noted_next : (file offsets : List ℕ) (i : Item) (count last tag : ℕ) → Tagged tag p i → last ≤ tag → (last < 2 → length es ≡ count) → length es ≤ count → count < length offsets
      → payload_at file o ≡ p → map (entry_at file) (take (length es) offsets) ≡ es
      → map (entry_at file) (take (length (with_item i o p es)) (set offsets count o)) ≡ with_item i o p es
  noted_next file offsets item.«Type» count last tag t r k l fits at e =
      let all : length es ≡ count = k (omega arith) in
      let more : length (with_item item.«Type» o p es) ≡ count + 1 = length_push es _ ∙ ap (λ n. n + 1) all in
      ap (λ n. map (entry_at file) (take n (set offsets count o))) more
      ∙ ap (map (entry_at file)) (take_more_set offsets count o fits)
      ∙ map-append (entry_at file) (take count offsets) (o ∷ [])
      ∙ (λ j. map (entry_at file) (take (sym all j) offsets) ++ record { offset = o; type = type_of (at j) } ∷ [])
      ∙ ap (λ (l : List TypeEntry). l ++ record { offset = o; type = type_of p } ∷ []) e
  noted_next file offsets item.Binding count last tag t r k l fits at e = ap (map (entry_at file)) (take-set-le (length es) offsets count o l) ∙ e
  noted_next file offsets item.Node count last tag t r k l fits at e = ap (map (entry_at file)) (take-set-le (length es) offsets count o l) ∙ e
  noted_next file offsets item.Closure count last tag t r k l fits at e = ap (map (entry_at file)) (take-set-le (length es) offsets count o l) ∙ e

abbrev more_by : ℕ → State → State → List TypeEntry → Listing
more_by zero s = λ t es. Err (TooMany s.offset)
more_by (suc n) s = scan n

scan_after : (n : ℕ) (s : State) (es : List TypeEntry) → scan n s es ≡ after (more_by n s) es (reads n s).state (reads n s).answer
scan_after zero s es = refl
scan_after (suc n) s es = refl

module _ {file : List ℕ} {room : ℕ} {s : State} {offsets : List ℕ} {count : ℕ} (h : Sofar file room s offsets count) where
  answered : (a : Answer) → (reads (length offsets - count) s).answer ≡ a
      → type_entries room file ≡ after (more_by (length offsets - count) s) h.entries (reads (length offsets - count) s).state a
  answered a e = h.whole ∙ ap (λ n. scan (n - count) s h.entries) (sym h.long) ∙ scan_after (length offsets - count) s h.entries
      ∙ ap (after (more_by (length offsets - count) s) h.entries (reads (length offsets - count) s).state) e

  pub refuses : (e : ReaderFault) → (reads (length offsets - count) s).answer ≡ Err e → type_entries room file ≡ Err e
  refuses e q = answered (Err e) q

  -- at the end of the file, the first rows are those of the types
  module _ (t : State) (none : (reads (length offsets - count) s).answer ≡ Ok None) (moved : t ≡ (reads (length offsets - count) s).state) where
    all_told : t.counts.types ≡ length h.entries
    all_told = ap (λ (u : State). u.counts.types) (moved ∙ stayed (length offsets - count) s none) ∙ h.counted

    pub types_fit : t.counts.types ≤ length offsets
    types_fit = omega (arith, all_told, h.few, h.fits, h.long)

    pub ends : Ok (map (entry_at file) (take t.counts.types offsets)) ≡ type_entries room file
    ends = ap (λ n. Ok (map (entry_at file) (take n offsets))) all_told ∙ ap Ok h.noted ∙ sym (answered (Ok None) none)

  module _ (f : Found) (t : State) (found : (reads (length offsets - count) s).answer ≡ Ok (Some f)) (moved : t ≡ (reads (length offsets - count) s).state) where
    step : Stepped (length offsets - count) s f t
    step = subst (Stepped (length offsets - count) s f) (sym moved) (stepped (length offsets - count) s f found)

    pub has_room : count < length offsets
    has_room = omega (arith, step.room, h.long)

    pub shorter : length t.bytes < length s.bytes
    shorter = omega (arith, parse_length s.bytes _ step.parsed)

    tag_told : Tagged t.last f.payload f.item
    tag_told = tagged t.last f.payload f.item step.is_item

    there : payload_at file f.offset ≡ f.payload
    there = ap (payload_at file) step.here ∙ ap (λ l. payload_or (parse l)) (sym h.here) ∙ ap payload_or step.parsed

    pub one_more_row : Sofar file room t (set offsets count f.offset) (count + 1)
    one_more_row =
        let left : length offsets - count ≡ suc (room - (count + 1)) = omega (arith, step.room, h.long) in
        let es = h.entries in
        record {
          entries = with_record f es;
          whole = answered (Ok (Some f)) found ∙ (λ i. more_by (left i) s (sym moved i) (with_record f es));
          fits = omega (arith, step.room, h.long);
          long = length-set offsets count f.offset ∙ h.long;
          counted = counted_next f.offset f.payload es f.item s.counts t.counts h.counted step.counted;
          few = few_next f.offset f.payload es f.item count h.few;
          only_types = only_next f.offset f.payload es f.item count s.last t.last tag_told step.rises h.only_types;
          here = parse_rest s.bytes _ step.parsed ∙ ap (drop (3 + length f.payload)) h.here ∙ drop-drop (3 + length f.payload) s.offset file
              ∙ ap (λ n. drop n file) (sym (step.there ∙ add_assoc s.offset 3 (length f.payload)));
          noted = noted_next f.offset f.payload es file offsets f.item count s.last t.last tag_told step.rises h.only_types h.few has_room there h.noted;
        }
