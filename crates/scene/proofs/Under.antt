-- Every node of a body names nodes with lower numbers only.
use Rattle.std.proofs.Common.{◌≡◌, ℕ, zero, suc, ◌-◌, ◌<◌, ◌≤◌, Bool, true, false, cond, ◌||◌, eqb, List, [], ◌∷◌, map, length, get_or, take, Some, Option, sym, refl, ap, ◌∙◌, subst, ⊎_elim, arith, eqb-true}
use native.Mathlib.Decide.{dec_le}
use Rattle.std.proofs.lemmas.List.{length-map, length-take-le}
use Rattle.std.proofs.lemmas.Bool.{not-false, or_parts, or_cases}
use Rattle.std.specs.Option.{option_map}
use Rattle.reader.specs.declared.class.Sort.TheVariants.{Expr, MaybeExpr, Pat, MaybePat, Binding, Step}
use Rattle.reader.specs.declared.operands.Operand.{Operand}
use Rattle.reader.specs.Operands.{any, of_sort}
use Rattle.node.specs.declared.lists.Arm.{Arm}
use Rattle.node.specs.declared.lists.FieldPat.{FieldPat}
use Rattle.node.specs.Lists.{no_field}
use Rattle.node.specs.Children.{in_fields, in_arms, in_expr, in_pat, in_node}
use Rattle.node.specs.Nodes.{ExprForm, leaf, name, run, let_statement, field, deref, ref, op_assign, assign, match_on, let_in, index, closure, PatForm, wild, bind, tuple, or, variant, reading, ref_pat, box_pat, local_path, expression, NodeAt, an_expr, a_pat, node_of}
use Rattle.indexing.specs.declared.rows.Row.{Row}
use Rattle.indexing.specs.declared.rows.RowSort.{RowSort}
use Rattle.indexing.specs.declared.rows.RowSort.TheVariants as row
use Rattle.body.specs.Answers.{node_in}
use Rattle.indexing.specs.Checks.{bad_operand}
use Rattle.indexing.specs.Opening.{Draft, NodeEntry}
use Rattle.indexing.specs.Rows.{no_row, row_at, is_expr, is_pat}
use Rattle.body.specs.Sound.{Sound, SoundNode, rows_in}
use Rattle.body.proofs.Answering.{numbered_none, numbered_some}
use Rattle.body.proofs.Sounding.{behind_at, drafted_sound}
use Rattle.body.specs.declared.bodies.Body.{Body}
use Rattle.body.specs.Bodies.{body_of}
use Rattle.scene.specs.Below.{ListBelow, FieldsBelow, ArmsBelow, ExprBelow, PatBelow}
use Rattle.scene.specs.Parts.{as_expr, expr_at, as_pat, pat_at, view_expr_node, view_pat_node, sub_pats}
use Rattle.node.specs.declared.nodes.ExprNode.{ExprNode}
use Rattle.node.specs.declared.nodes.PatNode.{PatNode}
use Rattle.node.specs.Nodes.{ExprAt, PatAt, view_expr, view_pat}

false_true : {X : Type 0} → false ≡ true → X
false_true e = absurd (let z : ◌≡◌ {A = ℕ} 0 1 = cc in omega arith)

-- a row of a sort that a test finds is one of the rows
module _ (t : RowSort → Bool) (none : t row.«Type» ≡ false) where
  there : (rows : List Row) (k : ℕ) → t (get_or rows k no_row).sort ≡ true → k < length rows
  there [] k e = false_true (sym none ∙ e)
  there (r ∷ rs) zero e = omega arith
  there (r ∷ rs) (suc k) e = let h = there rs k e in omega arith

  named : (rows : List Row) (c : ℕ) → t (row_at rows c).sort ≡ true → c ≤ length rows
  named rows zero e = omega arith
  named rows (suc k) e = let h = there rows k e in omega arith

  maybe : (rows : List Row) (c : ℕ) → (eqb c 0 || t (row_at rows c).sort) ≡ true → c ≤ length rows
  maybe rows c e = ⊎_elim (λ z. let h : c ≡ 0 = eqb-true c 0 z in omega arith) (λ x. named rows c x) (or_cases (eqb c 0) (t (row_at rows c).sort) e)

module _ (rows : List Row) (bindings n : ℕ) (few : length rows < n) where
  abbrev bad : Operand → Bool
  bad = bad_operand rows bindings

  expr_under : (e : ℕ) → bad (of_sort Expr e) ≡ false → e < n
  expr_under e h = let l = named is_expr refl rows e (not-false _ h) in omega arith

  pat_under : (p : ℕ) → bad (of_sort Pat p) ≡ false → p < n
  pat_under p h = let l = named is_pat refl rows p (not-false _ h) in omega arith

  maybe_expr_under : (e : ℕ) → bad (of_sort MaybeExpr e) ≡ false → e < n
  maybe_expr_under e h = let l = maybe is_expr refl rows e (not-false _ h) in omega arith

  maybe_pat_under : (p : ℕ) → bad (of_sort MaybePat p) ≡ false → p < n
  maybe_pat_under p h = let l = maybe is_pat refl rows p (not-false _ h) in omega arith

  -- the first operand, and the rest
  first : (o : Operand) (others : Bool) → (bad o || others) ≡ false → bad o ≡ false
  first o others h = (or_parts (bad o) others h).0

  rest : (o : Operand) (others : Bool) → (bad o || others) ≡ false → others ≡ false
  rest o others h = (or_parts (bad o) others h).1

  exprs_under : (es : List ℕ) → any bad (map (of_sort Expr) es) ≡ false → ListBelow n es
  exprs_under [] h = tt
  exprs_under (e ∷ es) h = (expr_under e (first (of_sort Expr e) _ h), exprs_under es (rest (of_sort Expr e) _ h))

  pats_under : (ps : List ℕ) → any bad (map (of_sort Pat) ps) ≡ false → ListBelow n ps
  pats_under [] h = tt
  pats_under (p ∷ ps) h = (pat_under p (first (of_sort Pat p) _ h), pats_under ps (rest (of_sort Pat p) _ h))

  fields_under : (fs : List FieldPat) → any bad (in_fields fs) ≡ false → FieldsBelow n fs
  fields_under [] h = tt
  fields_under (f ∷ fs) h =
      let patterned = rest (of_sort Step f.step) _ h in
      (pat_under f.pat (first (of_sort Pat f.pat) _ patterned), fields_under fs (rest (of_sort Pat f.pat) _ patterned))

  arms_under : (as' : List Arm) → any bad (in_arms as') ≡ false → ArmsBelow n as'
  arms_under [] h = tt
  arms_under (a ∷ as') h =
      let guarded = rest (of_sort Pat a.pat) _ h in
      let bodied = rest (of_sort MaybeExpr a.guard) _ guarded in (
        (pat_under a.pat (first (of_sort Pat a.pat) _ h), maybe_expr_under a.guard (first (of_sort MaybeExpr a.guard) _ guarded), expr_under a.body (first (of_sort Expr a.body) _ bodied)),
        arms_under as' (rest (of_sort Expr a.body) _ bodied),
      )

  expr_form_under : (f : ExprForm) → any bad (in_expr f) ≡ false → ExprBelow n f
  expr_form_under leaf h = tt
  expr_form_under (name b) h = tt
  expr_form_under (run es) h = exprs_under es h
  expr_form_under (let_statement p i o) h =
      let h₁ = rest (of_sort Pat p) _ h in
      (pat_under p (first (of_sort Pat p) _ h), maybe_expr_under i (first (of_sort MaybeExpr i) _ h₁), maybe_expr_under o (first (of_sort MaybeExpr o) _ (rest (of_sort MaybeExpr i) _ h₁)))
  expr_form_under (field e s) h = expr_under e (first (of_sort Expr e) _ h)
  expr_form_under (deref e r) h = expr_under e (first (of_sort Expr e) _ h)
  expr_form_under (ref e m) h = expr_under e (first (of_sort Expr e) _ h)
  expr_form_under (op_assign e v) h = (expr_under e (first (of_sort Expr e) _ h), expr_under v (first (of_sort Expr v) _ (rest (of_sort Expr e) _ h)))
  expr_form_under (assign p v) h = (pat_under p (first (of_sort Pat p) _ h), expr_under v (first (of_sort Expr v) _ (rest (of_sort Pat p) _ h)))
  expr_form_under (match_on e as') h = (expr_under e (first (of_sort Expr e) _ h), arms_under as' (rest (of_sort Expr e) _ h))
  expr_form_under (let_in p v) h = (pat_under p (first (of_sort Pat p) _ h), expr_under v (first (of_sort Expr v) _ (rest (of_sort Pat p) _ h)))
  expr_form_under (index e i) h = (expr_under e (first (of_sort Expr e) _ h), expr_under i (first (of_sort Expr i) _ (rest (of_sort Expr e) _ h)))
  expr_form_under (closure e m) h = expr_under e (first (of_sort Expr e) _ h)

  pat_form_under : (f : PatForm) → any bad (in_pat f) ≡ false → PatBelow n f
  pat_form_under wild h = tt
  pat_form_under (bind b how s) h = maybe_pat_under s (first (of_sort MaybePat s) _ (rest (of_sort Binding b) _ h))
  pat_form_under (tuple fs) h = fields_under fs h
  pat_form_under (or ps) h = pats_under ps h
  pat_form_under (variant v fs) h = fields_under fs h
  pat_form_under (reading ps) h = pats_under ps h
  pat_form_under (ref_pat p) h = pat_under p (first (of_sort Pat p) _ h)
  pat_form_under (box_pat p) h = pat_under p (first (of_sort Pat p) _ h)
  pat_form_under (local_path b) h = tt
  pat_form_under (expression e) h = expr_under e (first (of_sort Expr e) _ h)

  node_under : (x : NodeAt) → any bad (in_node x) ≡ false → ExprBelow n (as_expr (Some x)).form × PatBelow n (as_pat (Some x)).form
  node_under (an_expr e) h = (expr_form_under e.form h, tt)
  node_under (a_pat p) h = (tt, pat_form_under p.form h)

pub field_pat_at : (fs : List FieldPat) (i : ℕ) → (get_or fs i no_field).pat ≡ get_or (map (λ (f : FieldPat). f.pat) fs) i 0
field_pat_at [] i = refl
field_pat_at (f ∷ fs) zero = refl
field_pat_at (f ∷ fs) (suc i) = field_pat_at fs i

fields_pats_below : (n : ℕ) (fs : List FieldPat) → FieldsBelow n fs → ListBelow n (map (λ (f : FieldPat). f.pat) fs)
fields_pats_below n [] h = tt
fields_pats_below n (f ∷ fs) h = (h.0, fields_pats_below n fs h.1)

-- the patterns inside a pattern
pub subs_below : (n : ℕ) (x : PatForm) → PatBelow n x → ListBelow n (sub_pats x)
subs_below n wild h = tt
subs_below n (bind b how s) h = by (eqb s 0)
  where
    by : (z : Bool) → ListBelow n (cond z [] (s ∷ []))
    by true = tt
    by false = (h, tt)
subs_below n (tuple fs) h = fields_pats_below n fs h
subs_below n (or ps) h = h
subs_below n (variant v fs) h = fields_pats_below n fs h
subs_below n (reading ps) h = h
subs_below n (ref_pat p) h = (h, tt)
subs_below n (box_pat p) h = (h, tt)
subs_below n (local_path b) h = tt
subs_below n (expression e) h = tt

-- what a body holds fits together
pub sound_of : (b : Body) → Sound (body_of b)
sound_of b = drafted_sound b.rows.now b.file.now

abbrev Below : ℕ → Option NodeAt → Type 0
Below n x = ExprBelow n (as_expr x).form × PatBelow n (as_pat x).form

module _ (d : Draft) (sound : Sound d) where
  -- a node of the body, by its number
  entry_under : (n : ℕ) → 0 < n → n ≤ length d.nodes → Below n (node_in d n)
  entry_under n p l =
      let e : NodeEntry = record { row = no_row; node = node_of [] } in
      let k : n - 1 < length d.nodes = omega arith in
      let s = behind_at (SoundNode (length d.bindings)) [] d.nodes (n - 1) e k sound.nodes in
      let short : length (rows_in (take (n - 1) d.nodes)) ≡ n - 1 = length-map (take (n - 1) d.nodes) (λ (x : NodeEntry). x.row) ∙ length-take-le (n - 1) d.nodes (omega arith) in
      subst (Below n) (sym (ap (option_map (λ (x : NodeEntry). x.node)) (numbered_some d.nodes n e p l)))
      (node_under (rows_in (take (n - 1) d.nodes)) (length d.bindings) n (omega arith) (get_or d.nodes (n - 1) e).node s.named)

  under : (n : ℕ) → Below n (node_in d n)
  under zero = (tt, tt)
  under (suc n) = by (dec_le (suc n) (length d.nodes))
    where
      by : Dec (suc n ≤ length d.nodes) → Below (suc n) (node_in d (suc n))
      by (yes l) = entry_under (suc n) (omega arith) l
      by (no l) = subst (Below (suc n)) (sym (ap (option_map (λ (x : NodeEntry). x.node)) (numbered_none d.nodes (suc n) (omega arith)))) (tt, tt)

  pub expr_below : (n : ℕ) → ExprBelow n (expr_at d n).form
  expr_below n = (under n).0

  pub pat_below : (n : ℕ) → PatBelow n (pat_at d n).form
  pat_below n = (under n).1

  -- of a node as it was read
  pub expr_read_below : (n : ℕ) (x : ExprNode) → view_expr_node x ≡ expr_at d n → ExprBelow n (view_expr x.expr)
  expr_read_below n x e = subst (λ (y : ExprAt). ExprBelow n y.form) (sym e) (expr_below n)

  pub pat_read_below : (n : ℕ) (x : PatNode) → view_pat_node x ≡ pat_at d n → PatBelow n (view_pat x.pat)
  pat_read_below n x e = subst (λ (y : PatAt). PatBelow n y.form) (sym e) (pat_below n)

  pub subs_read_below : (n : ℕ) (x : PatNode) (vs : List ℕ) → view_pat_node x ≡ pat_at d n → vs ≡ sub_pats (view_pat x.pat) → ListBelow n vs
  subs_read_below n x vs e f = subst (ListBelow n) (sym f) (subs_below n (view_pat x.pat) (pat_read_below n x e))
