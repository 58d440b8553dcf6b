-- What holds while a file is opened, record by record.
use Rattle.std.proofs.Common.{◌≡◌, ℕ, zero, suc, ◌+◌, ◌-◌, ◌<◌, ◌≤◌, Bool, true, false, cond, ltb, List, [], ◌∷◌, ◌++◌, length, take, drop, set, replicate, Some, None, Ok, Err, Option, Result, sym, refl, ap, ◌∙◌, subst, arith}
use native.Mathlib.Nat.{sub-zero}
use Rattle.std.proofs.lemmas.List.{take_more_set, length-set, length-drop, length_push, length-take-le, drop-set-add}
use Rattle.std.proofs.lemmas.Bool.{ltb-true, and_parts}
use Rattle.reader.specs.declared.counts.Counts.{Counts}
use Rattle.reader.specs.declared.faults.ReaderFault.{ReaderFault}
use Rattle.reader.specs.declared.faults.ReaderFault.TheVariants as at_reader
use Rattle.reader.specs.declared.payload.Item.{Item}
use Rattle.reader.specs.declared.payload.Item.TheVariants as item
use Rattle.reader.specs.Counting.{one_more}
use Rattle.reader.specs.Reading.{State, start, Found, Answer, reads}
use Rattle.reader.proofs.Parsing.{parse_length}
use Rattle.reader.proofs.Stepping.{Stepped, stepped, Tagged, tagged}
use Rattle.indexing.specs.declared.faults.BodyFault.{BodyFault}
use Rattle.indexing.specs.declared.faults.BodyFault.TheVariants as fault
use Rattle.indexing.specs.declared.rows.Row.{Row}
use Rattle.indexing.specs.Checks.{Entered}
use Rattle.indexing.specs.Opening.{Draft, empty, rows_of, binding_rows, node_rows, adds, scan, after, go_on, misowned, astray, first_of, unless, finish, opened}
use Rattle.indexing.specs.Indexing.{Fitting, row_for, row_as, noted, home_at, ended, Indexed}
use Rattle.indexing.proofs.Classing.{operands_fit}
use Rattle.indexing.proofs.Adding.{extended, extends, length_rows, bindings_behind, nodes_behind, Told, row_extends, Early, rows_extended, Counted, counted_extended}

pub record Sofar (file : List ℕ) (table : List Row) (s : State) (rows : List Row) (count : ℕ) (marks : List Bool) (closures : List ℕ) : Type 0 where
  pub draft : Draft
  pub whole : opened (length table) file ≡ scan (length table - count) s draft
  pub room : count ≤ length table
  pub long : length rows ≡ length table
  pub rows_are : take count rows ≡ rows_of draft
  pub marks_are : marks ≡ draft.taken
  pub marked : length marks ≡ 2049
  pub noted_are : take (length draft.closures) (drop 1 closures) ≡ draft.closures
  pub sized : length closures ≡ 65
  pub few : length draft.closures ≤ 64
  pub counts : Counted s.counts draft
  pub no_bindings : s.last < 2 → draft.bindings ≡ []
  pub no_nodes : s.last < 3 → draft.nodes ≡ []

pub begin : (file : List ℕ) (table : List Row) → Sofar file table (start file) table 0 (replicate 2049 false) (replicate 65 0)
begin file table = record {
  draft = empty;
  whole = ap (λ n. scan n (start file) empty) (sym (sub-zero (length table)));
  room = omega arith;
  long = refl;
  rows_are = refl;
  marks_are = refl;
  marked = refl;
  noted_are = refl;
  sized = refl;
  few = omega arith;
  counts = record { types = refl; bindings = refl; nodes = refl; closures = refl };
  no_bindings = λ _. refl;
  no_nodes = λ _. refl;
}

apart : {X : Type 0} → ◌≡◌ {A = ℕ} 0 1 → X
apart e = absurd (omega arith)

-- the counts with the record in
granted : (b : Bool) (x c : Counts) → cond b (Some x) None ≡ Some c → (b ≡ true) × (x ≡ c)
granted true x c e = (refl, ap (λ (o : Option Counts). elim o as (λ _. Counts) [ None ↦ x | Some y ↦ y ]) e)
granted false x c e = apart (cc)

told : (i : Item) (d : Draft) (b c : Counts) → Counted b d → one_more b i ≡ Some c → Told i d c
told item.«Type» d b c k e =
    let g = (granted _ _ c e).1 in
    (sym (ap (λ (x : Counts). x.types) g) ∙ ap (λ n. n + 1) k.types, sym (ap (λ (x : Counts). x.bindings) g) ∙ k.bindings, sym (ap (λ (x : Counts). x.nodes) g) ∙ k.nodes, sym (ap (λ (x : Counts). x.closures) g) ∙ k.closures)
told item.Binding d b c k e =
    let g = (granted _ _ c e).1 in
    (sym (ap (λ (x : Counts). x.types) g) ∙ k.types, sym (ap (λ (x : Counts). x.bindings) g) ∙ ap (λ n. n + 1) k.bindings, sym (ap (λ (x : Counts). x.nodes) g) ∙ k.nodes, sym (ap (λ (x : Counts). x.closures) g) ∙ k.closures)
told item.Node d b c k e =
    let g = (granted _ _ c e).1 in
    (sym (ap (λ (x : Counts). x.types) g) ∙ k.types, sym (ap (λ (x : Counts). x.bindings) g) ∙ k.bindings, sym (ap (λ (x : Counts). x.nodes) g) ∙ ap (λ n. n + 1) k.nodes, sym (ap (λ (x : Counts). x.closures) g) ∙ k.closures)
told item.Closure d b c k e =
    let g = (granted _ _ c e).1 in
    (sym (ap (λ (x : Counts). x.types) g) ∙ k.types, sym (ap (λ (x : Counts). x.bindings) g) ∙ k.bindings, sym (ap (λ (x : Counts). x.nodes) g) ∙ ap (λ n. n + 1) k.nodes, sym (ap (λ (x : Counts). x.closures) g) ∙ ap (λ n. n + 1) k.closures)

still_few : (i : Item) (d : Draft) (p : List ℕ) (x : Entered) (b c : Counts) → Counted b d → length d.closures ≤ 64 → one_more b i ≡ Some c → length (extended i d p x).closures ≤ 64
still_few item.«Type» d p x b c k l e = l
still_few item.Binding d p x b c k l e = l
still_few item.Node d p x b c k l e = l
still_few item.Closure d p x b c k l e =
    let more : b.closures < 64 = ltb-true b.closures 64 (and_parts (ltb b.nodes 2048) (ltb b.closures 64) (granted _ _ c e).0).1 in
    omega (arith, length_push d.closures (length d.nodes + 1), k.closures)

-- what is told of a record by its tag
early : (i : Item) (d : Draft) (last tag : ℕ) (p : List ℕ) → Tagged tag p i → last ≤ tag → (last < 2 → d.bindings ≡ []) → (last < 3 → d.nodes ≡ []) → Early i d
early item.«Type» d last tag p t r b n = (b (omega arith), n (omega arith))
early item.Binding d last tag p t r b n = n (omega arith)
early item.Node d last tag p t r b n = tt
early item.Closure d last tag p t r b n = tt

no_bindings_yet : (i : Item) (d : Draft) (last tag : ℕ) (p : List ℕ) (x : Entered) → Tagged tag p i → last ≤ tag → (last < 2 → d.bindings ≡ []) → tag < 2 → (extended i d p x).bindings ≡ []
no_bindings_yet item.«Type» d last tag p x t r b h = b (omega arith)
no_bindings_yet item.Binding d last tag p x t r b h = absurd (omega arith)
no_bindings_yet item.Node d last tag p x t r b h = absurd (omega (arith, t.0))
no_bindings_yet item.Closure d last tag p x t r b h = absurd (omega (arith, t.0))

no_nodes_yet : (i : Item) (d : Draft) (last tag : ℕ) (p : List ℕ) (x : Entered) → Tagged tag p i → last ≤ tag → (last < 3 → d.nodes ≡ []) → tag < 3 → (extended i d p x).nodes ≡ []
no_nodes_yet item.«Type» d last tag p x t r b h = b (omega arith)
no_nodes_yet item.Binding d last tag p x t r b h = b (omega arith)
no_nodes_yet item.Node d last tag p x t r b h = absurd (omega (arith, t.0))
no_nodes_yet item.Closure d last tag p x t r b h = absurd (omega (arith, t.0))

-- the closures' nodes stand by number
noted_next : (i : Item) (d : Draft) (p : List ℕ) (x : Entered) (c : Counts) (cs : List ℕ) → Told i d c → length cs ≡ 65 → length d.closures ≤ 64 → length (extended i d p x).closures ≤ 64
    → take (length d.closures) (drop 1 cs) ≡ d.closures
    → take (length (extended i d p x).closures) (drop 1 (noted cs c i)) ≡ (extended i d p x).closures
noted_next item.«Type» d p x c cs t z l m e = e
noted_next item.Binding d p x c cs t z l m e = e
noted_next item.Node d p x c cs t z l m e = e
noted_next item.Closure d p x c cs t z l m e =
    let n = length d.closures in
    let more : length (d.closures ++ (length d.nodes + 1) ∷ []) ≡ n + 1 = length_push d.closures (length d.nodes + 1) in
    let place : c.closures ≡ 1 + n = omega (arith, t.3) in
    let fits : n < length (drop 1 cs) = omega (arith, length-drop 1 cs) in
    ap (λ k. take k (drop 1 (set cs c.closures c.nodes))) more
    ∙ ap (λ (l : List ℕ). take (n + 1) l) ((λ i. drop 1 (set cs (place i) (t.2 i))) ∙ drop-set-add 1 cs n (length d.nodes + 1))
    ∙ take_more_set (drop 1 cs) n (length d.nodes + 1) fits
    ∙ ap (λ l. l ++ (length d.nodes + 1) ∷ []) e

length_noted : (i : Item) (cs : List ℕ) (c : Counts) → length (noted cs c i) ≡ length cs
length_noted item.«Type» cs c = refl
length_noted item.Binding cs c = refl
length_noted item.Node cs c = refl
length_noted item.Closure cs c = length-set cs c.closures c.nodes

taken_extended : (i : Item) (d : Draft) (p : List ℕ) (x : Entered) → x.taken ≡ (extended i d p x).taken
taken_extended item.«Type» d p x = refl
taken_extended item.Binding d p x = refl
taken_extended item.Node d p x = refl
taken_extended item.Closure d p x = refl

-- a node's operands fit its class
pub fitting_by : (tag : ℕ) (p : List ℕ) (i : Item) → Tagged tag p i → Fitting i p
fitting_by tag p item.«Type» t = tt
fitting_by tag p item.Binding t = tt
fitting_by tag p item.Node t = operands_fit p item.Node t.1
fitting_by tag p item.Closure t = operands_fit p item.Closure t.1

abbrev more_by : ℕ → State → State → Draft → Result Draft BodyFault
more_by zero s = λ t e. Err (fault.Reader (at_reader.TooMany s.offset))
more_by (suc n) s = scan n

scan_after : (n : ℕ) (s : State) (d : Draft) → scan n s d ≡ after (more_by n s) d (reads n s).state (reads n s).answer
scan_after zero s d = refl
scan_after (suc n) s d = refl

module _ {file : List ℕ} {table : List Row} {s : State} {rows : List Row} {count : ℕ} {marks : List Bool} {closures : List ℕ} (h : Sofar file table s rows count marks closures) where
  answered : (a : Answer) → (reads (length rows - count) s).answer ≡ a
      → opened (length table) file ≡ after (more_by (length rows - count) s) h.draft (reads (length rows - count) s).state a
  answered a e = h.whole ∙ ap (λ n. scan (n - count) s h.draft) (sym h.long) ∙ scan_after (length rows - count) s h.draft ∙ ap (after (more_by (length rows - count) s) h.draft (reads (length rows - count) s).state) e

  pub reader_refuses : (e : ReaderFault) → (reads (length rows - count) s).answer ≡ Err e → opened (length table) file ≡ Err (fault.Reader e)
  reader_refuses e q = answered (Err e) q

  pub at_end : (reads (length rows - count) s).answer ≡ Ok None → opened (length table) file ≡ finish h.draft
  at_end q = answered (Ok None) q

  module _ (f : Found) (t : State) (found : (reads (length rows - count) s).answer ≡ Ok (Some f)) (moved : t ≡ (reads (length rows - count) s).state) where
    step : Stepped (length rows - count) s f t
    step = subst (Stepped (length rows - count) s f) (sym moved) (stepped (length rows - count) s f found)

    pub has_room : count < length rows
    has_room = omega (arith, step.room, h.long)

    pub shorter : length t.bytes < length s.bytes
    shorter = omega (arith, parse_length s.bytes _ step.parsed)

    tag_told : Tagged t.last f.payload f.item
    tag_told = tagged t.last f.payload f.item step.is_item

    pub operands_told : Fitting f.item f.payload
    operands_told = fitting_by t.last f.payload f.item tag_told

    counts_told : Told f.item h.draft t.counts
    counts_told = told f.item h.draft s.counts t.counts h.counts step.counted

    -- the body with the record in, by its row
    row_added : (r : Result Entered BodyFault) → row_for (take count rows) t.counts marks f ≡ r → adds h.draft f ≡ extends f.item h.draft f.payload r
    row_added r q =
        sym (row_extends h.draft t.counts f.offset f.payload f.item counts_told)
        ∙ ap (extends f.item h.draft f.payload) ((λ i. row_as f.item (sym h.rows_are i) t.counts (sym h.marks_are i) f.offset f.payload) ∙ q)

    gone_on : opened (length table) file ≡ go_on (scan (length table - (count + 1))) t (adds h.draft f)
    gone_on =
        let left : length rows - count ≡ suc (length table - (count + 1)) = omega (arith, step.room, h.long) in
        answered (Ok (Some f)) found ∙ (λ i. go_on (more_by (left i) s) (sym moved i) (adds h.draft f))

    pub body_refuses : (e : BodyFault) → row_for (take count rows) t.counts marks f ≡ Err e → opened (length table) file ≡ Err e
    body_refuses e q = gone_on ∙ ap (go_on (scan (length table - (count + 1))) t) (row_added (Err e) q)

    pub one_more_row : (x : Entered) → row_for (take count rows) t.counts marks f ≡ Ok x → length x.taken ≡ 2049
        → Sofar file table t (set rows count x.row) (count + 1) x.taken (noted closures t.counts f.item)
    one_more_row x q marked = record {
      draft = extended f.item h.draft f.payload x;
      whole = gone_on ∙ ap (go_on (scan (length table - (count + 1))) t) (row_added (Ok x) q);
      room = omega (arith, step.room, h.long);
      long = length-set rows count x.row ∙ h.long;
      rows_are = take_more_set rows count x.row has_room ∙ ap (λ l. l ++ x.row ∷ []) h.rows_are
          ∙ sym (rows_extended f.item h.draft f.payload x (early f.item h.draft s.last t.last f.payload tag_told step.rises h.no_bindings h.no_nodes));
      marks_are = taken_extended f.item h.draft f.payload x;
      marked = marked;
      noted_are = noted_next f.item h.draft f.payload x t.counts closures counts_told h.sized h.few
          (still_few f.item h.draft f.payload x s.counts t.counts h.counts h.few step.counted) h.noted_are;
      sized = length_noted f.item closures t.counts ∙ h.sized;
      few = still_few f.item h.draft f.payload x s.counts t.counts h.counts h.few step.counted;
      counts = counted_extended f.item h.draft f.payload x t.counts counts_told;
      no_bindings = no_bindings_yet f.item h.draft s.last t.last f.payload x tag_told step.rises h.no_bindings;
      no_nodes = no_nodes_yet f.item h.draft s.last t.last f.payload x tag_told step.rises h.no_nodes;
    }

  -- the end of the file: the rows are all there
  pub rows_told : length (rows_of h.draft) ≡ count
  rows_told = sym (ap length h.rows_are) ∙ length-take-le count rows (omega (arith, h.room, h.long))

  pub before_nodes : s.counts.types + s.counts.bindings ≤ length (take count rows)
  before_nodes = omega (arith, ap length h.rows_are, length_rows h.draft, h.counts.types, h.counts.bindings)

  ended_told : ended (take count rows) s.counts marks ≡ home_at (first_of (misowned (length h.draft.closures) (binding_rows h.draft)) (astray h.draft.taken 1 (node_rows h.draft)))
  ended_told =
      let d = h.draft in
      let bs : take s.counts.bindings (drop s.counts.types (take count rows)) ≡ binding_rows d = (λ i. take (h.counts.bindings i) (drop (h.counts.types i) (h.rows_are i))) ∙ bindings_behind d in
      let ns : drop (s.counts.types + s.counts.bindings) (take count rows) ≡ node_rows d = (λ i. drop (h.counts.types i + h.counts.bindings i) (h.rows_are i)) ∙ nodes_behind d in
      λ i. home_at (first_of (misowned (h.counts.closures i) (bs i)) (astray (h.marks_are i) 1 (ns i)))

  pub end_refuses : (reads (length rows - count) s).answer ≡ Ok None → (e : BodyFault) → ended (take count rows) s.counts marks ≡ Err e → opened (length table) file ≡ Err e
  end_refuses q e x = at_end q ∙ by (first_of (misowned (length h.draft.closures) (binding_rows h.draft)) (astray h.draft.taken 1 (node_rows h.draft))) (sym ended_told ∙ x)
    where
      by : (o : Option ℕ) → home_at o ≡ Err e → unless h.draft o ≡ Err e
      by None p = apart (cc)
      by (Some n) p = ap (λ (r : Result (Unit {0}) BodyFault). elim r as (λ _. Result Draft BodyFault) [ Ok u ↦ Ok h.draft | Err y ↦ Err y ]) p

  pub end_grants : (reads (length rows - count) s).answer ≡ Ok None → ended (take count rows) s.counts marks ≡ Ok tt → opened (length table) file ≡ Ok h.draft
  end_grants q x = at_end q ∙ by (first_of (misowned (length h.draft.closures) (binding_rows h.draft)) (astray h.draft.taken 1 (node_rows h.draft))) (sym ended_told ∙ x)
    where
      by : (o : Option ℕ) → home_at o ≡ Ok tt → unless h.draft o ≡ Ok h.draft
      by None p = refl
      by (Some n) p = apart (cc)

  pub indexed : Indexed h.draft (record { counts = s.counts; closures = closures }) rows
  indexed = record {
    types = h.counts.types;
    bindings = h.counts.bindings;
    nodes = h.counts.nodes;
    closures = h.counts.closures;
    few = omega (arith, h.few, h.counts.closures);
    rows_are = ap (λ n. take n rows) rows_told ∙ h.rows_are;
    nodes_are = h.noted_are;
  }
