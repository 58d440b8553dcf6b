-- What is known of a record that a reader gives.
use Rattle.std.proofs.Common.{◌≡◌, ℕ, ◌+◌, ◌<◌, ◌≤◌, Bool, true, false, cond, eqb, ltb, leb, List, [], ◌∷◌, length, is_some, Some, None, Ok, Err, Option, Result, sym, refl, ap, ◌∙◌, subst, arith}
use Rattle.std.proofs.lemmas.Bool.{ltb-false, ltb-true, eqb-true, and_parts}
use Rattle.reader.specs.declared.class.Class.{Class}
use Rattle.reader.specs.declared.counts.Counts.{Counts}
use Rattle.reader.specs.declared.faults.ReaderFault.{ReaderFault}
use Rattle.reader.specs.declared.faults.ReaderFault.TheVariants as fault
use Rattle.reader.specs.declared.payload.Item.{Item}
use Rattle.reader.specs.declared.payload.Item.TheVariants as item
use Rattle.reader.specs.declared.payload.Wrong.{Wrong}
use Rattle.reader.specs.declared.payload.Wrong.TheVariants.{Misfit, Unknown}
use Rattle.reader.specs.Classes.{class_of, head, again, is_closure}
use Rattle.reader.specs.Counting.{one_more}
use Rattle.reader.specs.Operands.{operands}
use Rattle.reader.specs.Payloads.{item_of, node_item, of_class, node_fits, front_fits, as_item, fitting, type_fits, operand_bytes}
use Rattle.reader.specs.Pieces.{Parsed, parse, byte_at}
use Rattle.reader.specs.Reading.{State, Found, Answer, reads, of_bytes, of_piece, moves, checks, sorted, admitted}

-- the record of a step: it was parsed here, its tag does not fall back, its payload is that of its item, it is counted
pub record Stepped (rows : ℕ) (s : State) (f : Found) (t : State) : Type 0 where
  pub parsed : parse s.bytes ≡ Some (record { tag = t.last; payload = f.payload; rest = t.bytes })
  pub here : f.offset ≡ s.offset
  pub there : t.offset ≡ s.offset + 3 + length f.payload
  pub rises : s.last ≤ t.last
  pub is_item : item_of t.last f.payload ≡ Ok f.item
  pub counted : one_more s.counts f.item ≡ Some t.counts
  pub room : 0 < rows

apart : {X : Type 0} → ◌≡◌ {A = ℕ} 0 1 → X
apart e = absurd (omega arith)

module _ (rows : ℕ) (s : State) where
  -- from the checks of a record that came through
  pub record Checked (tag : ℕ) (payload : List ℕ) (i : Item) (c : Counts) : Type 0 where
    pub rises : s.last ≤ tag
    pub is_item : item_of tag payload ≡ Ok i
    pub counted : one_more s.counts i ≡ Some c
    pub room : 0 < rows

  checked : (tag : ℕ) (payload : List ℕ) (i : Item) (c : Counts) → checks rows s tag payload ≡ Ok (i, c) → Checked tag payload i c
  checked tag payload i c = falls (ltb tag s.last) refl
    where
      enough : (j : Item) → item_of tag payload ≡ Ok j → s.last ≤ tag → (d : Counts) → one_more s.counts j ≡ Some d → (b : Bool) → ltb 0 rows ≡ b
          → cond {A = Result (Item × Counts) ReaderFault} b (Ok (j, d)) (Err (fault.TooMany s.offset)) ≡ Ok (i, c) → Checked tag payload i c
      enough j q r d o false e x = apart (cc)
      enough j q r d o true e x =
          let same : j ≡ i = ap (λ (y : Result (Item × Counts) ReaderFault). elim y as (λ _. Item) [ Ok z ↦ z.0 | Err _ ↦ j ]) x in
          let too : d ≡ c = ap (λ (y : Result (Item × Counts) ReaderFault). elim y as (λ _. Counts) [ Ok z ↦ z.1 | Err _ ↦ d ]) x in
          record {
            rises = r;
            is_item = q ∙ ap Ok same;
            counted = ap (one_more s.counts) (sym same) ∙ o ∙ ap Some too;
            room = ltb-true 0 rows e;
          }

      known : (j : Item) → item_of tag payload ≡ Ok j → s.last ≤ tag → (o : Option Counts) → one_more s.counts j ≡ o
          → admitted rows s.offset j o ≡ Ok (i, c) → Checked tag payload i c
      known j q r None e x = apart (cc)
      known j q r (Some d) e x = enough j q r d e (ltb 0 rows) refl x

      wrong : (w : Result Item Wrong) → item_of tag payload ≡ w → s.last ≤ tag → sorted rows s w ≡ Ok (i, c) → Checked tag payload i c
      wrong (Err w) q r x = apart (cc)
      wrong (Ok j) q r x = known j q r (one_more s.counts j) refl x

      falls : (b : Bool) → ltb tag s.last ≡ b → cond b (Err (fault.Unknown s.offset)) (sorted rows s (item_of tag payload)) ≡ Ok (i, c) → Checked tag payload i c
      falls true e x = apart (cc)
      falls false e x = wrong (item_of tag payload) refl (ltb-false tag s.last e) x

  pub stepped : (f : Found) → (reads rows s).answer ≡ Ok (Some f) → Stepped rows s f (reads rows s).state
  stepped f = bytes s.bytes refl
    where
      end : (p : Parsed) → parse s.bytes ≡ Some p → (x : Item × Counts) → Checked p.tag p.payload x.0 x.1
          → (moves s p (Ok x)).answer ≡ Ok (Some f) → Stepped rows s f (moves s p (Ok x)).state
      end p q x k e =
          let same : record { offset = s.offset; item = x.0; payload = p.payload } ≡ f = ap (λ (y : Answer). elim y as (λ _. Found) [ Err _ ↦ f | Ok o ↦ elim o as (λ _. Found) [ None ↦ f | Some g ↦ g ] ]) e in
          let pay : p.payload ≡ f.payload = ap (λ (g : Found). g.payload) same in
          let it : x.0 ≡ f.item = ap (λ (g : Found). g.item) same in
          record {
            parsed = q ∙ ap (λ (l : List ℕ). Some (record { tag = p.tag; payload = l; rest = p.rest })) pay;
            here = sym (ap (λ (g : Found). g.offset) same);
            there = ap (λ (l : List ℕ). s.offset + 3 + length l) pay;
            rises = k.rises;
            is_item = ap (item_of p.tag) (sym pay) ∙ k.is_item ∙ ap Ok it;
            counted = ap (one_more s.counts) (sym it) ∙ k.counted;
            room = k.room;
          }

      result : (p : Parsed) → parse s.bytes ≡ Some p → (r : Result (Item × Counts) ReaderFault) → checks rows s p.tag p.payload ≡ r
          → (moves s p r).answer ≡ Ok (Some f) → Stepped rows s f (moves s p r).state
      result p q (Err e) k x = apart (cc)
      result p q (Ok y) k x = end p q y (checked p.tag p.payload y.0 y.1 k) x

      piece : (o : Option Parsed) → parse s.bytes ≡ o → (of_piece rows s o).answer ≡ Ok (Some f) → Stepped rows s f (of_piece rows s o).state
      piece None q x = apart (cc)
      piece (Some p) q x = result p q (checks rows s p.tag p.payload) refl x

      bytes : (bs : List ℕ) → s.bytes ≡ bs → (of_bytes rows s bs).answer ≡ Ok (Some f) → Stepped rows s f (of_bytes rows s bs).state
      bytes [] q x = apart (cc)
      bytes (b ∷ bs) q x = piece (parse (b ∷ bs)) (ap parse q) x

-- at the end of the file a reader stays
pub stayed : (rows : ℕ) (s : State) → (reads rows s).answer ≡ Ok None → (reads rows s).state ≡ s
stayed rows s = bytes s.bytes
  where
    result : (p : Parsed) (r : Result (Item × Counts) ReaderFault) → (moves s p r).answer ≡ Ok None → (moves s p r).state ≡ s
    result p (Err e) x = refl
    result p (Ok y) x = apart (cc)

    piece : (o : Option Parsed) → (of_piece rows s o).answer ≡ Ok None → (of_piece rows s o).state ≡ s
    piece None x = refl
    piece (Some p) x = result p (checks rows s p.tag p.payload) x

    bytes : (bs : List ℕ) → (of_bytes rows s bs).answer ≡ Ok None → (of_bytes rows s bs).state ≡ s
    bytes [] x = refl
    bytes (b ∷ bs) x = piece (parse (b ∷ bs)) x

-- A record of a type has tag 1, of a binding 2, of a node 3; and a node's operands fit the class that its byte names.
pub record Classed (p : List ℕ) (i : Item) : Type 0 where
  pub class : Class
  pub named : class_of (byte_at p 1) ≡ Some class
  pub is : as_item class ≡ i
  pub fits : is_some (operands (again class) (head class) (operand_bytes class p)) ≡ true

abbrev pub Tagged : ℕ → List ℕ → Item → Type 0
Tagged tag p item.«Type» = tag ≡ 1
Tagged tag p item.Binding = tag ≡ 2
Tagged tag p item.Node = (tag ≡ 3) × Classed p item.Node
Tagged tag p item.Closure = (tag ≡ 3) × Classed p item.Closure

classed : (p : List ℕ) (i : Item) → node_item p ≡ Ok i → Classed p i
classed p i = short (ltb (length p) 2)
  where
    fit : (c : Class) → class_of (byte_at p 1) ≡ Some c → (b : Bool) → node_fits c p ≡ b → cond b (Ok (as_item c)) (Err Misfit) ≡ Ok i → Classed p i
    fit c n false e x = apart (cc)
    fit c n true e x = record {
      class = c;
      named = n;
      is = ap (λ (y : Result Item Wrong). elim y as (λ _. Item) [ Ok z ↦ z | Err _ ↦ i ]) x;
      fits = (and_parts (front_fits c p) _ e).1;
    }

    known : (o : Option Class) → class_of (byte_at p 1) ≡ o → of_class o p ≡ Ok i → Classed p i
    known None n x = apart (cc)
    known (Some c) n x = fit c n (node_fits c p) refl x

    short : (b : Bool) → cond b (Err Misfit) (of_class (class_of (byte_at p 1)) p) ≡ Ok i → Classed p i
    short true x = apart (cc)
    short false x = known (class_of (byte_at p 1)) refl x

pub tagged : (tag : ℕ) (p : List ℕ) (i : Item) → item_of tag p ≡ Ok i → Tagged tag p i
tagged tag p i = one (eqb tag 1) refl
  where
    to : (j : Item) → Tagged tag p j → j ≡ i → Tagged tag p i
    to j t e = subst (Tagged tag p) e t

    just : (b : Bool) (j : Item) → Tagged tag p j → fitting b j ≡ Ok i → Tagged tag p i
    just false j t x = apart (cc)
    just true j t x = to j t (ap (λ (y : Result Item Wrong). elim y as (λ _. Item) [ Ok z ↦ z | Err _ ↦ i ]) x)

    node : tag ≡ 3 → Classed p i → (b : Bool) → cond b item.Closure item.Node ≡ i → Tagged tag p i
    node t k true e = to item.Closure (t, subst (Classed p) (sym e) k) e
    node t k false e = to item.Node (t, subst (Classed p) (sym e) k) e

    three : (b : Bool) → eqb tag 3 ≡ b → cond b (node_item p) (Err Unknown) ≡ Ok i → Tagged tag p i
    three false e x = apart (cc)
    three true e x = let k = classed p i x in node (eqb-true tag 3 e) k (is_closure k.class) k.is

    two : (b : Bool) → eqb tag 2 ≡ b → cond b (fitting (leb 3 (length p)) item.Binding) (cond (eqb tag 3) (node_item p) (Err Unknown)) ≡ Ok i → Tagged tag p i
    two true e x = just (leb 3 (length p)) item.Binding (eqb-true tag 2 e) x
    two false e x = three (eqb tag 3) refl x

    one : (b : Bool) → eqb tag 1 ≡ b
        → cond b (fitting (type_fits p) item.«Type») (cond (eqb tag 2) (fitting (leb 3 (length p)) item.Binding) (cond (eqb tag 3) (node_item p) (Err Unknown))) ≡ Ok i → Tagged tag p i
    one true e x = just (type_fits p) item.«Type» (eqb-true tag 1 e) x
    one false e x = two (eqb tag 2) refl x
