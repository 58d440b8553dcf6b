-- Every body that opens is sound.
use Rattle.std.proofs.Common.{◌≡◌, ℕ, zero, suc, ◌+◌, ◌<◌, ◌≤◌, Bool, true, false, cond, not, ◌||◌, eqb, ltb, List, [], ◌∷◌, ◌++◌, length, get_or, take, is_some, Some, None, Ok, Err, Option, Result, sym, refl, ap, ◌∙◌, subst, add-zero, arith}
use Rattle.std.proofs.lemmas.Bool.{or_parts}
use Rattle.std.proofs.lemmas.List.{append-nil, append_assoc}
use Rattle.reader.specs.declared.class.Class.{Class}
use Rattle.reader.specs.declared.class.Class.TheVariants as class
use Rattle.reader.specs.declared.operands.Operand.{Operand}
use Rattle.reader.specs.declared.payload.Item.{Item}
use Rattle.reader.specs.declared.payload.Item.TheVariants as item
use Rattle.reader.specs.Classes.{is_expression, is_closure, head, again}
use Rattle.reader.specs.Operands.{any, or_none, operands, all}
use Rattle.reader.specs.Payloads.{operand_bytes, as_item}
use Rattle.reader.specs.Pieces.{byte_at}
use Rattle.reader.specs.Reading.{State, start, Found}
use Rattle.reader.proofs.Stepping.{Stepped, Classed, Tagged, tagged}
use Rattle.node.specs.Children.{in_node}
use Rattle.node.specs.Nodes.{node_by, node_as, node_of, class_at}
use Rattle.node.proofs.Laying.{tested_expr, tested_pat}
use Rattle.indexing.specs.declared.faults.BodyFault.{BodyFault}
use Rattle.indexing.specs.declared.rows.Row.{Row}
use Rattle.indexing.specs.declared.rows.RowSort.TheVariants as row
use Rattle.indexing.specs.Checks.{operands_left, listed, bad_operand, strays, home_misfits, Entered, enters}
use Rattle.body.specs.Drafts.{or_empty, drafted}
use Rattle.indexing.specs.Opening.{Draft, NodeEntry, empty, node_rows, add_binding, add_node, try_node, add_as, adds, opened}
use Rattle.body.specs.Sound.{home_of, sort_in, closes, closure_numbers, closing, SoundNode, Behind, Sound}
use Rattle.indexing.proofs.Classing.{class_is, operands_fit}
use Rattle.indexing.proofs.Entering.{Came, came}
use Rattle.body.proofs.Keeping.{scan_keeps}

apart : {X : Type 0} → ◌≡◌ {A = ℕ} 0 1 → X
apart e = absurd (omega arith)

-- a node of a class, by parts
home_by : (b : Bool) (c : Class) (p : List ℕ) → home_of (node_by b c p) ≡ byte_at p 0
home_by true c p = refl
home_by false c p = refl

sort_by : (b : Bool) (c : Class) (p : List ℕ) → cond b row.Expr row.Pat ≡ sort_in (node_by b c p)
sort_by true c p = refl
sort_by false c p = refl

tested_by : (t : Operand → Bool) (b : Bool) (c : Class) (p : List ℕ) → is_some (operands (again c) (head c) (operand_bytes c p)) ≡ true
    → any t (or_none (operands (again c) (head c) (operand_bytes c p))) ≡ false → any t (in_node (node_by b c p)) ≡ false
tested_by t true c p f h = tested_expr t (operand_bytes c p) c f h
tested_by t false c p f h = tested_pat t (operand_bytes c p) c f h

-- a test that no operand of a payload meets, no operand of its node meets
tested : (t : Operand → Bool) (p : List ℕ) → is_some (all (operands_left p)) ≡ true → any t (listed (operands_left p)) ≡ false → any t (in_node (node_of p)) ≡ false
tested t p f h = tested_by t (is_expression (class_at p)) (class_at p) p f h

closes_as : (c : Class) (p : List ℕ) → closes (node_as c p) ≡ is_closure c
closes_as class.Leaf p = refl
closes_as class.Name p = refl
closes_as class.Run p = refl
closes_as class.LetStatement p = refl
closes_as class.Field p = refl
closes_as class.Deref p = refl
closes_as class.Ref p = refl
closes_as class.OpAssign p = refl
closes_as class.Assign p = refl
closes_as class.Match p = refl
closes_as class.Let p = refl
closes_as class.Index p = refl
closes_as class.Closure p = refl
closes_as class.Wild p = refl
closes_as class.Bind p = refl
closes_as class.Tuple p = refl
closes_as class.Or p = refl
closes_as class.Variant p = refl
closes_as class.Reading p = refl
closes_as class.RefPat p = refl
closes_as class.BoxPat p = refl
closes_as class.LocalPath p = refl
closes_as class.Expression p = refl

item_closes : (c : Class) → as_item c ≡ item.Closure → is_closure c ≡ true
item_closes c = by (is_closure c)
  where
    by : (b : Bool) → cond b item.Closure item.Node ≡ item.Closure → b ≡ true
    by true e = refl
    by false e = apart (cc)

item_opens : (c : Class) → as_item c ≡ item.Node → is_closure c ≡ false
item_opens c = by (is_closure c)
  where
    by : (b : Bool) → cond b item.Closure item.Node ≡ item.Node → b ≡ false
    by true e = apart (cc)
    by false e = refl

closes_node : (p : List ℕ) → Classed p item.Node → closes (node_of p) ≡ false
closes_node p k = closes_as (class_at p) p ∙ ap is_closure (class_is p item.Node k) ∙ item_opens k.class k.is

closes_closure : (p : List ℕ) → Classed p item.Closure → closes (node_of p) ≡ true
closes_closure p k = closes_as (class_at p) p ∙ ap is_closure (class_is p item.Closure k) ∙ item_closes k.class k.is

-- one more node
module _ {X : Type 0} (Q : List X → X → Type 0) where
  behind_push : (before xs : List X) (x : X) → Behind Q before xs → Q (before ++ xs) x → Behind Q before (xs ++ x ∷ [])
  behind_push before [] x h q = (subst (λ l. Q l x) (append-nil before) q, tt)
  behind_push before (y ∷ ys) x h q = (h.0, behind_push (before ++ y ∷ []) ys x h.1 (subst (λ l. Q l x) (sym (append_assoc before (y ∷ []) ys)) q))

  -- what is behind the first k
  pub behind_at : (before xs : List X) (k : ℕ) (d : X) → k < length xs → Behind Q before xs → Q (before ++ take k xs) (get_or xs k d)
  behind_at before [] k d l h = absurd (omega arith)
  behind_at before (x ∷ xs) zero d l h = subst (λ m. Q m x) (sym (append-nil before)) h.0
  behind_at before (x ∷ xs) (suc k) d l h = subst (λ m. Q m (get_or xs k d)) (append_assoc before (x ∷ []) (take k xs)) (behind_at (before ++ x ∷ []) xs k d (omega arith) h.1)

pub numbers_push : (n : ℕ) (es : List NodeEntry) (e : NodeEntry) → closure_numbers n (es ++ e ∷ []) ≡ closure_numbers n es ++ cond (closes e.node) ((n + length es) ∷ []) []
numbers_push n [] e = ap (λ k. cond (closes e.node) (k ∷ []) []) (sym (add-zero n))
numbers_push n (x ∷ es) e = by (closes x.node) (numbers_push (n + 1) es e ∙ ap (λ k. closure_numbers (n + 1) es ++ cond (closes e.node) (k ∷ []) []) (omega arith))
  where
    by : (b : Bool) → closure_numbers (n + 1) (es ++ e ∷ []) ≡ closure_numbers (n + 1) es ++ cond (closes e.node) ((n + suc (length es)) ∷ []) []
        → cond b (n ∷ closure_numbers (n + 1) (es ++ e ∷ [])) (closure_numbers (n + 1) (es ++ e ∷ []))
        ≡ cond b (n ∷ closure_numbers (n + 1) es) (closure_numbers (n + 1) es) ++ cond (closes e.node) ((n + suc (length es)) ∷ []) []
    by true rest = ap (λ l. n ∷ l) rest
    by false rest = rest

-- homes that fit by the bytes fit by the node
housed : (rows : List Row) (p : List ℕ) (closed : Option ℕ) → is_some (all (operands_left p)) ≡ true
    → home_misfits rows (byte_at p 0) closed (listed (operands_left p)) ≡ false → home_misfits rows (byte_at p 0) closed (in_node (node_of p)) ≡ false
housed rows p None f h = tested (strays rows (byte_at p 0)) p f h
housed rows p (Some k) f h =
    let strayed = tested (strays rows k) p f ((or_parts (any (strays rows k) (listed (operands_left p))) _ h).0) in
    ap (λ b. b || not (eqb (byte_at p 0) 0 || ltb k (byte_at p 0))) strayed ∙ (or_parts (any (strays rows k) (listed (operands_left p))) _ h).1

-- a node that came through is sound
sound_node : (d : Draft) (closed : Option ℕ) (offset : ℕ) (p : List ℕ) (x : Entered) → is_some (all (operands_left p)) ≡ true
    → Came (node_rows d) (length d.bindings) closed offset p x → closed ≡ closing d.nodes (node_of p)
    → SoundNode (length d.bindings) d.nodes (record { row = x.row; node = node_of p })
sound_node d closed offset p x f c e =
    let home = home_by (is_expression (class_at p)) (class_at p) p in
    record {
      home = ap (λ (r : Row). r.home) c.row_is ∙ sym home;
      sort = ap (λ (r : Row). r.sort) c.row_is ∙ sort_by (is_expression (class_at p)) (class_at p) p;
      named = tested (bad_operand (node_rows d) (length d.bindings)) p f c.named;
      housed = (λ i. home_misfits (node_rows d) (home i) (sym e i) (in_node (node_of p))) ∙ housed (node_rows d) p closed f c.housed;
    }

-- while a body is opened
pub record Kept (s : State) (d : Draft) : Type 0 where
  pub sound : Sound d
  pub no_nodes : s.last < 3 → d.nodes ≡ []

pub ok_same : (d e : Draft) → ◌≡◌ {A = Result Draft BodyFault} (Ok d) (Ok e) → d ≡ e
ok_same d e p = ap (λ (r : Result Draft BodyFault). elim r as (λ _. Draft) [ Ok x ↦ x | Err _ ↦ d ]) p

module _ (d : Draft) (closed : Option ℕ) (offset : ℕ) (p : List ℕ) (e : Draft) where
  -- what a node's record made
  pub record Made : Type 0 where
    pub entered : Entered
    pub through : Came (node_rows d) (length d.bindings) closed offset p entered
    pub is : add_node d p closed (Ok entered) ≡ Ok e

  pub made : try_node d closed offset p ≡ Ok e → Made
  made = by (enters (node_rows d) (length d.bindings) d.taken closed offset p) refl
    where
      by : (r : Result Entered BodyFault) → enters (node_rows d) (length d.bindings) d.taken closed offset p ≡ r → add_node d p closed r ≡ Ok e → Made
      by (Err x) q z = apart (cc)
      by (Ok x) q z = record { entered = x; through = came (node_rows d) (length d.bindings) d.taken closed offset p x q; is = z }

module _ (s t : State) (d e : Draft) (offset : ℕ) (p : List ℕ) (rises : s.last ≤ t.last) (k : Kept s d) where
  kept_type : Tagged t.last p item.«Type» → add_as item.«Type» d offset p ≡ Ok e → Kept t e
  kept_type g z = subst (Kept t) (ok_same _ e z) (record { sound = record { nodes = k.sound.nodes; closures = k.sound.closures }; no_nodes = λ l. k.no_nodes (omega arith) })

  kept_binding : Tagged t.last p item.Binding → add_as item.Binding d offset p ≡ Ok e → Kept t e
  kept_binding g z =
      let none : d.nodes ≡ [] = k.no_nodes (omega arith) in
      subst (Kept t) (ok_same _ e z) (record {
        sound = record { nodes = subst (λ l. Behind (SoundNode (length (add_binding d offset p).bindings)) [] l) (sym none) tt; closures = k.sound.closures };
        no_nodes = λ l. none;
      })

  no_three : {X : Type 0} → t.last ≡ 3 → t.last < 3 → X
  no_three g l = absurd (omega arith)

  kept_node : Tagged t.last p item.Node → add_as item.Node d offset p ≡ Ok e → Kept t e
  kept_node g z =
      let m = made d None offset p e z in
      let shut = closes_node p g.1 in
      let entry : NodeEntry = record { row = m.entered.row; node = node_of p } in
      let fits = operands_fit p item.Node g.1 in
      subst (Kept t) (ok_same _ e m.is) (record {
        sound = record {
          nodes = behind_push (SoundNode (length d.bindings)) [] d.nodes entry k.sound.nodes
              (sound_node d None offset p m.entered fits m.through (sym (ap (λ b. cond b (Some (length (closure_numbers 1 d.nodes) + 1)) None) shut)));
          closures = k.sound.closures ∙ sym (numbers_push 1 d.nodes entry ∙ ap (λ b. closure_numbers 1 d.nodes ++ cond b ((1 + length d.nodes) ∷ []) []) shut ∙ append-nil _);
        };
        no_nodes = no_three g.0;
      })

  kept_closure : Tagged t.last p item.Closure → add_as item.Closure d offset p ≡ Ok e → Kept t e
  kept_closure g z =
      let m = made d (Some (length d.closures + 1)) offset p e z in
      let shut = closes_closure p g.1 in
      let entry : NodeEntry = record { row = m.entered.row; node = node_of p } in
      let fits = operands_fit p item.Closure g.1 in
      let number : 1 + length d.nodes ≡ length d.nodes + 1 = omega arith in
      subst (Kept t) (ok_same _ e m.is) (record {
        sound = record {
          nodes = behind_push (SoundNode (length d.bindings)) [] d.nodes entry k.sound.nodes
              (sound_node d (Some (length d.closures + 1)) offset p m.entered fits m.through
              (ap (λ l. Some (length l + 1)) k.sound.closures ∙ sym (ap (λ b. cond b (Some (length (closure_numbers 1 d.nodes) + 1)) None) shut)));
          closures = (λ i. k.sound.closures i ++ sym number i ∷ []) ∙ sym (numbers_push 1 d.nodes entry ∙ ap (λ b. closure_numbers 1 d.nodes ++ cond b ((1 + length d.nodes) ∷ []) []) shut);
        };
        no_nodes = no_three g.0;
      })

  kept_as : (i : Item) → Tagged t.last p i → add_as i d offset p ≡ Ok e → Kept t e
  kept_as item.«Type» g z = kept_type g z
  kept_as item.Binding g z = kept_binding g z
  kept_as item.Node g z = kept_node g z
  kept_as item.Closure g z = kept_closure g z

keeps : (n : ℕ) (s t : State) (d e : Draft) (f : Found) → Stepped n s f t → adds d f ≡ Ok e → Kept s d → Kept t e
keeps n s t d e f st z k = kept_as s t d e f.offset f.payload st.rises k f.item (tagged t.last f.payload f.item st.is_item) z

pub opened_sound : (rows : ℕ) (file : List ℕ) (d : Draft) → opened rows file ≡ Ok d → Sound d
opened_sound rows file d z =
    (scan_keeps Kept keeps rows (start file) empty d (record { sound = record { nodes = tt; closures = refl }; no_nodes = λ l. refl }) z).1.sound

pub drafted_sound : (rows : List Row) (file : List ℕ) → Sound (drafted rows file)
drafted_sound rows file = by (opened (length rows) file) refl
  where
    by : (r : Result Draft BodyFault) → opened (length rows) file ≡ r → Sound (or_empty r)
    by (Ok d) e = opened_sound (length rows) file d e
    by (Err x) e = record { nodes = tt; closures = refl }
