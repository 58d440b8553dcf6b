-- What a node does, one step at a time.
use Rattle.std.proofs.Common.{◌≡◌, ℕ, zero, suc, ◌-◌, ◌<◌, Bool, true, false, cond, eqb, List, [], ◌∷◌, ◌++◌, length, get_or, Some, None, Ok, Err, sym, refl, ap, ◌∙◌, arith}
use Rattle.node.specs.declared.lists.Arm.{Arm}
use Rattle.node.specs.declared.lists.FieldPat.{FieldPat}
use Rattle.node.specs.declared.nodes.ExprNode.{ExprNode}
use Rattle.node.specs.declared.nodes.PatNode.{PatNode}
use Rattle.node.specs.declared.nodes.VariantSort.{VariantSort}
use Rattle.node.specs.declared.nodes.VariantSort.TheVariants as sort
use Rattle.node.specs.Lists.{no_adjustment}
use Rattle.node.specs.Nodes.{ExprAt, PatAt, ExprForm, leaf, name, run, let_statement, field, deref, ref, op_assign, assign, match_on, let_in, index, closure, PatForm, wild, bind, tuple, or, variant, reading, ref_pat, box_pat, local_path, expression, view_expr, view_pat}
use Rattle.body.specs.Sound.{Sound}
use Rattle.scale.specs.declared.modes.Mode.TheVariants.{Imm, Mut, Move}
use Rattle.world.specs.declared.shapes.Shape.{Shape}
use Rattle.world.specs.declared.shapes.Shape.TheVariants as shape
use Rattle.place.specs.Places.{Spot}
use Rattle.scene.specs.Below.{ListBelow, FieldsBelow, ArmsBelow, ExprBelow, PatBelow}
use Rattle.events.specs.Events.{Event}
use Rattle.scene.specs.Parts.{expr_at, pat_at, adjusted_type, sub_pats, view_expr_node, view_pat_node}
use Rattle.scene.specs.Places.{Reach, step_on, field_on, derefs_on}
use Rattle.scene.specs.Recursion.{Local}
use Rattle.scene.specs.Scenes.{Setting}
use Rattle.events.specs.Captures.{with_place, borrows, capture_expr, place, match_place, consume_place, ref_capture_with_adjusts}
use Rattle.walk.specs.Walks.{Doing, idle, consume_exprs, deref_by_method, assign_from, walk_arms, walk_form, consume_fields, consume_pats, consume_variant, consume_form, assign_form, assign_pats, walk_with_adjust, doing_step, doing}
use Rattle.scene.proofs.Recursing.{number_at}
use Rattle.scene.proofs.Under.{expr_below, pat_below, subs_below}

module _ (s : Setting) where
  module _ (n : ℕ) (e f : ℕ → Doing) (h : (c : ℕ) → c < n → e c ≡ f c) where
    exprs_local : (es : List ℕ) → ListBelow n es → (i : Bool) → consume_exprs s e es i ≡ consume_exprs s f es i
    exprs_local [] b i = refl
    exprs_local (x ∷ xs) b i = λ j. (capture_expr s Move x ++ (h x b.0 j).walked i) ++ exprs_local xs b.1 i j

    arms_local : (as' : List Arm) → ArmsBelow n as' → (i : Bool) → walk_arms s e as' i ≡ walk_arms s f as' i
    arms_local [] b i = refl
    arms_local (a ∷ as') b i =
        λ j. (capture_expr s Move a.body ++ (h a.body b.0.2 j).walked i)
        ++ (cond (eqb a.guard 0) [] (capture_expr s Move a.guard ++ (h a.guard b.0.1 j).walked i) ++ arms_local as' b.1 i j)

    deref_local : (c : ℕ) → c < n → (x : Shape) (i : Bool) → deref_by_method s e x c i ≡ deref_by_method s f x c i
    deref_local c b shape.Error i = refl
    deref_local c b shape.Other i = refl
    deref_local c b shape.Shared i = λ j. capture_expr s Imm c ++ (h c b j).walked i
    deref_local c b shape.Mutable i = λ j. capture_expr s Mut c ++ (h c b j).walked i
    deref_local c b shape.Raw i = λ j. (h c b j).walked i
    deref_local c b shape.Boxed i = refl
    deref_local c b shape.Union i = refl
    deref_local c b shape.Tuple i = refl
    deref_local c b shape.Struct i = refl
    deref_local c b (shape.Closure k) i = refl

    from_local : (p : ℕ) → p < n → (r : Reach) (i : Bool) → assign_from s e r p i ≡ assign_from s f r p i
    from_local p b (Err x) i = refl
    from_local p b (Ok None) i = λ j. (h p b j).assigned i
    from_local p b (Ok (Some q)) i = λ j. (h p b j).consumed q true

    form_local : (x : ExprForm) → ExprBelow n x → (i : Bool) → walk_form s e n x i ≡ walk_form s f n x i
    form_local leaf b i = refl
    form_local (name c) b i = refl
    form_local (run es) b i = exprs_local es b i
    form_local (let_statement p v o) b i =
        λ j. cond (eqb o 0) [] (capture_expr s Move o ++ (h o b.2 j).walked i)
        ++ cond (eqb v 0) [] (cond (eqb o 0) ((h v b.1 j).walked i) (capture_expr s Move v ++ (h v b.1 j).walked i) ++ with_place (place s v) (λ q. (h p b.0 j).consumed q i))
    form_local (field c t) b i = λ j. (h c b j).walked i
    form_local (deref c r) b i = λ j. cond r (deref_local c b (s.means.shape (adjusted_type (expr_at s.body c))) i j) ((h c b j).walked i)
    form_local (ref c m) b i = λ j. cond m (capture_expr s Mut c ++ (h c b j).walked i) (capture_expr s Imm c ++ (h c b j).walked i)
    form_local (op_assign c v) b i = λ j. (capture_expr s Mut c ++ (h c b.0 j).walked i) ++ (capture_expr s Move v ++ (h v b.1 j).walked i)
    form_local (assign p v) b i = λ j. (h v b.1 j).walked i ++ from_local p b.0 (place s v) i j
    form_local (match_on c as') b i = λ j. arms_local as' b.1 i j ++ ((h c b.0 j).walked i ++ with_place (place s c) (match_place s c as'))
    form_local (let_in p v) b i = λ j. (h v b.1 j).walked i ++ with_place (place s v) (λ q. (h p b.0 j).consumed q i)
    form_local (index c k) b i = λ j. (h c b.0 j).walked i ++ (capture_expr s Move k ++ (h k b.1 j).walked i)
    form_local (closure c m) b i = refl

    fields_local : (p : Spot) (fs : List FieldPat) → FieldsBelow n fs → (i : Bool) → consume_fields s e p fs i ≡ consume_fields s f p fs i
    fields_local p [] b i = refl
    fields_local p (x ∷ xs) b i = λ j. with_place (field_on p x.step) (λ q. (h x.pat b.0 j).consumed q i) ++ fields_local p xs b.1 i j

    pats_local : (p : Spot) (ps : List ℕ) → ListBelow n ps → (i : Bool) → consume_pats s e p ps i ≡ consume_pats s f p ps i
    pats_local p [] b i = refl
    pats_local p (x ∷ xs) b i = λ j. (h x b.0 j).consumed p i ++ pats_local p xs b.1 i j

    variant_local : (v : VariantSort) (fs : List FieldPat) → FieldsBelow n fs → (p : Spot) (i : Bool) → consume_variant s e n v fs p i ≡ consume_variant s f n v fs p i
    variant_local sort.Struct fs b p i = fields_local p fs b i
    variant_local sort.Enum fs b p i = refl
    variant_local sort.OneVariant fs b p i = refl
    variant_local sort.Union fs b p i = refl
    variant_local sort.Unresolved fs b p i = refl

    consume_local : (x : PatForm) → PatBelow n x → (p : Spot) (i : Bool) → consume_form s e n x p i ≡ consume_form s f n x p i
    consume_local wild b p i = refl
    consume_local (bind c how x) b p i = refl
    consume_local (tuple fs) b p i = fields_local p fs b i
    consume_local (or ps) b p i = pats_local p ps b i
    consume_local (variant v fs) b p i = variant_local v fs b p i
    consume_local (reading ps) b p i = refl
    consume_local (ref_pat x) b p i = λ j. with_place (step_on p 0) (λ q. (h x b j).consumed q i)
    consume_local (box_pat x) b p i = refl
    consume_local (local_path c) b p i = refl
    consume_local (expression c) b p i = λ j. consume_place s p n ++ (capture_expr s Mut c ++ (h c b j).walked false)

    assign_local : (x : PatForm) → PatBelow n x → (i : Bool) → assign_form s e n x i ≡ assign_form s f n x i
    assign_local wild b i = refl
    assign_local (bind c how x) b i = refl
    assign_local (tuple fs) b i = refl
    assign_local (or ps) b i = refl
    assign_local (variant v fs) b i = refl
    assign_local (reading ps) b i = refl
    assign_local (ref_pat x) b i = refl
    assign_local (box_pat x) b i = refl
    assign_local (local_path c) b i = refl
    assign_local (expression c) b i = λ j. capture_expr s Mut c ++ (h c b j).walked i

    subs_local : (ps : List ℕ) → ListBelow n ps → (i : Bool) → assign_pats s e ps i ≡ assign_pats s f ps i
    subs_local [] b i = refl
    subs_local (x ∷ xs) b i = λ j. (h x b.0 j).assigned i ++ subs_local xs b.1 i j

  module _ (sound : Sound s.body) where
    step_local : Local (doing_step s)
    step_local n e f h = λ j. record {
      walked = λ i. walk_with_adjust s n (length (expr_at s.body n).adjusts) (form_local n e f h (expr_at s.body n).form (expr_below s.body sound n) i j);
      consumed = λ p i. with_place (derefs_on (pat_at s.body n).implicit p) (λ q. consume_local n e f h (pat_at s.body n).form (pat_below s.body sound n) q i j);
      assigned = λ i. assign_local n e f h (pat_at s.body n).form (pat_below s.body sound n) i j
          ++ subs_local n e f h (sub_pats (pat_at s.body n).form) (subs_below n (pat_at s.body n).form (pat_below s.body sound n)) i j;
    }

    pub doing_at : (n : ℕ) → doing s n ≡ doing_step s n (doing s)
    unfolding doing
    doing_at n = number_at idle (doing_step s) step_local n

    -- from the nodes as they were read
    pub walked_read : (n : ℕ) (x : ExprNode) (k : ℕ) (i : Bool) → view_expr_node x ≡ expr_at s.body n → k ≡ length (view_expr_node x).adjusts
        → walk_with_adjust s n k (walk_form s (doing s) n (view_expr x.expr) i) ≡ (doing s n).walked i
    walked_read n x k i e l =
        ap (λ m. walk_with_adjust s n m (walk_form s (doing s) n (view_expr x.expr) i)) l
        ∙ ap (λ (y : ExprAt). walk_with_adjust s n (length y.adjusts) (walk_form s (doing s) n y.form i)) e ∙ ap (λ (d : Doing). d.walked i) (sym (doing_at n))

    pub consumed_read : (n : ℕ) (x : PatNode) (p : Spot) (i : Bool) (r : Reach) → view_pat_node x ≡ pat_at s.body n → r ≡ derefs_on x.implicit p
        → with_place r (λ q. consume_form s (doing s) n (view_pat x.pat) q i) ≡ (doing s n).consumed p i
    consumed_read n x p i r e h =
        ap (λ y. with_place y (λ q. consume_form s (doing s) n (view_pat x.pat) q i)) h
        ∙ ap (λ (y : PatAt). with_place (derefs_on y.implicit p) (λ q. consume_form s (doing s) n y.form q i)) e ∙ ap (λ (d : Doing). d.consumed p i) (sym (doing_at n))

    pub assigned_read : (n : ℕ) (x : PatNode) (i : Bool) (vs : List ℕ) → view_pat_node x ≡ pat_at s.body n → vs ≡ sub_pats (view_pat x.pat)
        → assign_form s (doing s) n (view_pat x.pat) i ++ assign_pats s (doing s) vs i ≡ (doing s n).assigned i
    assigned_read n x i vs e h =
        ap (λ v. assign_form s (doing s) n (view_pat x.pat) i ++ assign_pats s (doing s) v i) h
        ∙ ap (λ (y : PatAt). assign_form s (doing s) n y.form i ++ assign_pats s (doing s) (sub_pats y.form) i) e ∙ ap (λ (d : Doing). d.assigned i) (sym (doing_at n))

  -- one adjustment of several
  pub adjusted_turn : (n k : ℕ) (es : List Event) → (k ≡ 0 → ⊥)
      → ref_capture_with_adjusts s (borrows (get_or (expr_at s.body n).adjusts (k - 1) no_adjustment).kind) n (k - 1) ++ walk_with_adjust s n (k - 1) es ≡ walk_with_adjust s n k es
  adjusted_turn n zero es z = absurd (z refl)
  adjusted_turn n (suc k) es z = let m : suc k - 1 ≡ k = omega arith in rw m refl
