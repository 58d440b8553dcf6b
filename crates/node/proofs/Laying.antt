-- The bytes of a node's operands, as its class lays them out, and the operands of the node.
use Rattle.std.proofs.Common.{◌≡◌, ℕ, ◌+◌, ◌*◌, Bool, true, false, cond, ◌||◌, leb, List, [], ◌∷◌, map, get_or, drop, is_some, Some, None, Option, sym, refl, ap, ◌∙◌}
use Rattle.std.proofs.lemmas.Bool.{false≢true, or_parts}
use Rattle.std.proofs.lemmas.List.{get_or-drop, drop-drop}
use Rattle.reader.specs.declared.class.Class.{Class}
use Rattle.reader.specs.declared.class.Class.TheVariants as class
use Rattle.reader.specs.declared.class.Sort.{Sort}
use Rattle.reader.specs.declared.class.Sort.TheVariants.{Expr, MaybeExpr, Pat, MaybePat, Binding, Step, Flag}
use Rattle.reader.specs.declared.operands.Operand.{Operand}
use Rattle.reader.specs.Classes.{head, again}
use Rattle.reader.specs.Numbers.{numbers}
use Rattle.reader.specs.Operands.{flag_most, of_sort, before, or_none, any, operands}
use Rattle.reader.specs.Pieces.{byte_at, number_at}
use Rattle.node.specs.Lists.{pairs, triples}
use Rattle.node.specs.Nodes.{expr_of, pat_of}
use Rattle.node.specs.Children.{in_fields, in_arms, in_expr, in_pat}

no : {X : Type 0} → false ≡ true → X
no e = absurd (false≢true e)

or_before : (x : Operand) (o : Option (List Operand)) → is_some o ≡ true → or_none (before x o) ≡ x ∷ or_none o
or_before x None h = no h
or_before x (Some xs) h = refl

some_before : (x : Operand) (o : Option (List Operand)) → is_some (before x o) ≡ true → is_some o ≡ true
some_before x None h = h
some_before x (Some xs) h = h

-- the first operand of a list that fits, and the rest
pub record Split (o : Option (List Operand)) (x : Operand) (rest : Option (List Operand)) : Type 0 where
  pub is : or_none o ≡ x ∷ or_none rest
  pub fits : is_some rest ≡ true

splits : (x : Operand) (rest : Option (List Operand)) → is_some (before x rest) ≡ true → Split (before x rest) x rest
splits x rest f = let g = some_before x rest f in record { is = or_before x rest g; fits = g }

module _ (again : List Sort) where
  numbered : (s : Sort) → flag_most s ≡ None → (ss : List Sort) (bs : List ℕ) → is_some (operands again (s ∷ ss) bs) ≡ true
      → Split (operands again (s ∷ ss) bs) (of_sort s (number_at bs 0)) (operands again ss (drop 2 bs))
  numbered s h ss [] f = no f
  numbered s h ss (a ∷ []) f = no (rw h at f)
  numbered s h ss (a ∷ b ∷ bs) f = rw h (splits _ (operands again ss bs) (rw h at f))

  flagged : (m : ℕ) (ss : List Sort) (bs : List ℕ) → is_some (operands again (Flag m ∷ ss) bs) ≡ true
      → Split (operands again (Flag m ∷ ss) bs) (of_sort (Flag m) (byte_at bs 0)) (operands again ss (drop 1 bs))
  flagged m ss [] f = no f
  flagged m ss (a ∷ []) f = within (leb a m) f
    where
      within : (v : Bool) → is_some (cond v (before (of_sort (Flag m) a) (operands again ss [])) None) ≡ true
          → Split (cond v (before (of_sort (Flag m) a) (operands again ss [])) None) (of_sort (Flag m) a) (operands again ss [])
      within true g = splits _ (operands again ss []) g
      within false g = no g
  flagged m ss (a ∷ b ∷ bs) f = within (leb a m) f
    where
      within : (v : Bool) → is_some (cond v (before (of_sort (Flag m) a) (operands again ss (b ∷ bs))) None) ≡ true
          → Split (cond v (before (of_sort (Flag m) a) (operands again ss (b ∷ bs))) None) (of_sort (Flag m) a) (operands again ss (b ∷ bs))
      within true g = splits _ (operands again ss (b ∷ bs)) g
      within false g = no g

-- nothing is left
ended : (bs : List ℕ) → is_some (operands [] [] bs) ≡ true → or_none (operands [] [] bs) ≡ []
ended [] f = refl
ended (a ∷ []) f = no f
ended (a ∷ b ∷ bs) f = no f

-- a number behind the first bytes
behind : (bs : List ℕ) (n k : ℕ) → number_at (drop n bs) k ≡ get_or bs (n + k) 0 * 256 + get_or bs (n + (k + 1)) 0
behind bs n k = λ i. get_or-drop n bs k 0 i * 256 + get_or-drop n bs (k + 1) 0 i

-- the operands of a fixed layout
one : (s : Sort) → flag_most s ≡ None → (bs : List ℕ) → is_some (operands [] (s ∷ []) bs) ≡ true → or_none (operands [] (s ∷ []) bs) ≡ of_sort s (number_at bs 0) ∷ []
one s h bs f =
    let a = numbered [] s h [] bs f in
    a.is ∙ ap (λ l. of_sort s (number_at bs 0) ∷ l) (ended (drop 2 bs) a.fits)

two : (s t : Sort) → flag_most s ≡ None → flag_most t ≡ None → (bs : List ℕ) → is_some (operands [] (s ∷ t ∷ []) bs) ≡ true
    → or_none (operands [] (s ∷ t ∷ []) bs) ≡ of_sort s (number_at bs 0) ∷ of_sort t (number_at bs 2) ∷ []
two s t h k bs f =
    let a = numbered [] s h (t ∷ []) bs f in
    a.is ∙ ap (λ l. of_sort s (number_at bs 0) ∷ l) (one t k (drop 2 bs) a.fits ∙ ap (λ n. of_sort t n ∷ []) (behind bs 2 0))

three : (s t u : Sort) → flag_most s ≡ None → flag_most t ≡ None → flag_most u ≡ None → (bs : List ℕ) → is_some (operands [] (s ∷ t ∷ u ∷ []) bs) ≡ true
    → or_none (operands [] (s ∷ t ∷ u ∷ []) bs) ≡ of_sort s (number_at bs 0) ∷ of_sort t (number_at bs 2) ∷ of_sort u (number_at bs 4) ∷ []
three s t u h k l bs f =
    let a = numbered [] s h (t ∷ u ∷ []) bs f in
    a.is ∙ ap (λ x. of_sort s (number_at bs 0) ∷ x) (two t u k l (drop 2 bs) a.fits ∙ (λ i. of_sort t (behind bs 2 0 i) ∷ of_sort u (behind bs 2 2 i) ∷ []))

with_flag : (s : Sort) (m : ℕ) → flag_most s ≡ None → (bs : List ℕ) → is_some (operands [] (s ∷ Flag m ∷ []) bs) ≡ true
    → or_none (operands [] (s ∷ Flag m ∷ []) bs) ≡ of_sort s (number_at bs 0) ∷ of_sort (Flag m) (byte_at (drop 2 bs) 0) ∷ []
with_flag s m h bs f =
    let a = numbered [] s h (Flag m ∷ []) bs f in
    let b = flagged [] m [] (drop 2 bs) a.fits in
    a.is ∙ ap (λ x. of_sort s (number_at bs 0) ∷ x) (b.is ∙ ap (λ x. of_sort (Flag m) (byte_at (drop 2 bs) 0) ∷ x) (ended (drop 1 (drop 2 bs)) b.fits))

-- the operands of a layout that repeats
each : (s : Sort) → flag_most s ≡ None → (bs : List ℕ) → is_some (operands (s ∷ []) [] bs) ≡ true → or_none (operands (s ∷ []) [] bs) ≡ map (of_sort s) (numbers bs)
each s h [] f = refl
each s h (a ∷ []) f = no (rw h at f)
each s h (a ∷ b ∷ bs) f =
    let g = splits (of_sort s (a * 256 + b)) (operands (s ∷ []) [] bs) (rw h at f) in
    rw h (g.is ∙ ap (λ l. of_sort s (a * 256 + b) ∷ l) (each s h bs g.fits))

fields : (bs : List ℕ) → is_some (operands (Step ∷ Pat ∷ []) [] bs) ≡ true → or_none (operands (Step ∷ Pat ∷ []) [] bs) ≡ in_fields (pairs (numbers bs))
fields [] f = refl
fields (a ∷ []) f = no f
fields (a ∷ b ∷ []) f = no f
fields (a ∷ b ∷ c ∷ []) f = no f
fields (a ∷ b ∷ c ∷ d ∷ bs) f =
    let g = splits (of_sort Step (a * 256 + b)) (before (of_sort Pat (c * 256 + d)) (operands (Step ∷ Pat ∷ []) [] bs)) f in
    let h = splits (of_sort Pat (c * 256 + d)) (operands (Step ∷ Pat ∷ []) [] bs) g.fits in
    g.is ∙ ap (λ l. of_sort Step (a * 256 + b) ∷ l) (h.is ∙ ap (λ l. of_sort Pat (c * 256 + d) ∷ l) (fields bs h.fits))

arms : (bs : List ℕ) → is_some (operands (Pat ∷ MaybeExpr ∷ Expr ∷ []) [] bs) ≡ true → or_none (operands (Pat ∷ MaybeExpr ∷ Expr ∷ []) [] bs) ≡ in_arms (triples (numbers bs))
arms [] f = refl
arms (a ∷ []) f = no f
arms (a ∷ b ∷ []) f = no f
arms (a ∷ b ∷ c ∷ []) f = no f
arms (a ∷ b ∷ c ∷ d ∷ []) f = no f
arms (a ∷ b ∷ c ∷ d ∷ e ∷ []) f = no f
arms (a ∷ b ∷ c ∷ d ∷ e ∷ x ∷ bs) f =
    let rest = operands (Pat ∷ MaybeExpr ∷ Expr ∷ []) [] bs in
    let g = splits (of_sort Pat (a * 256 + b)) (before (of_sort MaybeExpr (c * 256 + d)) (before (of_sort Expr (e * 256 + x)) rest)) f in
    let h = splits (of_sort MaybeExpr (c * 256 + d)) (before (of_sort Expr (e * 256 + x)) rest) g.fits in
    let k = splits (of_sort Expr (e * 256 + x)) rest h.fits in
    g.is ∙ ap (λ l. of_sort Pat (a * 256 + b) ∷ l) (h.is ∙ ap (λ l. of_sort MaybeExpr (c * 256 + d) ∷ l) (k.is ∙ ap (λ l. of_sort Expr (e * 256 + x) ∷ l) (arms bs k.fits)))

both_or : (b c : Bool) → b ≡ false → c ≡ false → (b || c) ≡ false
both_or true c e f = e
both_or false c e f = f

-- A test that no operand of the bytes meets, no operand of the node meets. (Flags are no operands of the node.)
module _ (t : Operand → Bool) (bs : List ℕ) where
  to : (xs ys : List Operand) → xs ≡ ys → any t xs ≡ false → any t ys ≡ false
  to xs ys e h = ap (any t) (sym e) ∙ h

  unflagged : (x y : Operand) → any t (x ∷ y ∷ []) ≡ false → any t (x ∷ []) ≡ false
  unflagged x y h = ap (λ b. b || false) ((or_parts (t x) _ h).0)

  bound : is_some (operands [] (Binding ∷ Flag 2 ∷ MaybePat ∷ []) bs) ≡ true → any t (or_none (operands [] (Binding ∷ Flag 2 ∷ MaybePat ∷ []) bs)) ≡ false
      → any t (of_sort Binding (number_at bs 0) ∷ of_sort MaybePat (number_at bs 3) ∷ []) ≡ false
  bound f h =
      let a = numbered [] Binding refl (Flag 2 ∷ MaybePat ∷ []) bs f in
      let b = flagged [] 2 (MaybePat ∷ []) (drop 2 bs) a.fits in
      let c = one MaybePat refl (drop 1 (drop 2 bs)) b.fits in
      let n : number_at (drop 1 (drop 2 bs)) 0 ≡ number_at bs 3 = ap (λ l. number_at l 0) (drop-drop 1 2 bs) ∙ behind bs 3 0 in
      let all = to _ _ (a.is ∙ ap (λ l. of_sort Binding (number_at bs 0) ∷ l) (b.is ∙ ap (λ l. of_sort (Flag 2) (byte_at (drop 2 bs) 0) ∷ l) (c ∙ ap (λ k. of_sort MaybePat k ∷ []) n))) h in
      both_or (t (of_sort Binding (number_at bs 0))) _ ((or_parts (t (of_sort Binding (number_at bs 0))) _ all).0) ((or_parts (t (of_sort (Flag 2) (byte_at (drop 2 bs) 0))) _ ((or_parts (t (of_sort Binding (number_at bs 0))) _ all).1)).1)

  pub tested_expr : (c : Class) → is_some (operands (again c) (head c) bs) ≡ true → any t (or_none (operands (again c) (head c) bs)) ≡ false → any t (in_expr (expr_of c bs)) ≡ false
  tested_expr class.Leaf f h = refl
  tested_expr class.Name f h = to _ _ (one Binding refl bs f) h
  tested_expr class.Run f h = to _ _ (each Expr refl bs f) h
  tested_expr class.LetStatement f h = to _ _ (three Pat MaybeExpr MaybeExpr refl refl refl bs f) h
  tested_expr class.Field f h = to _ _ (two Expr Step refl refl bs f) h
  tested_expr class.Deref f h = unflagged _ _ (to _ _ (with_flag Expr 1 refl bs f) h)
  tested_expr class.Ref f h = unflagged _ _ (to _ _ (with_flag Expr 1 refl bs f) h)
  tested_expr class.OpAssign f h = to _ _ (two Expr Expr refl refl bs f) h
  tested_expr class.Assign f h = to _ _ (two Pat Expr refl refl bs f) h
  tested_expr class.Match f h = let a = numbered _ Expr refl [] bs f in to _ _ (a.is ∙ ap (λ l. of_sort Expr (number_at bs 0) ∷ l) (arms (drop 2 bs) a.fits)) h
  tested_expr class.Let f h = to _ _ (two Pat Expr refl refl bs f) h
  tested_expr class.Index f h = to _ _ (two Expr Expr refl refl bs f) h
  tested_expr class.Closure f h = unflagged _ _ (to _ _ (with_flag Expr 1 refl bs f) h)
  tested_expr class.Wild f h = refl
  tested_expr class.Bind f h = refl
  tested_expr class.Tuple f h = refl
  tested_expr class.Or f h = refl
  tested_expr class.Variant f h = refl
  tested_expr class.Reading f h = refl
  tested_expr class.RefPat f h = refl
  tested_expr class.BoxPat f h = refl
  tested_expr class.LocalPath f h = refl
  tested_expr class.Expression f h = refl

  pub tested_pat : (c : Class) → is_some (operands (again c) (head c) bs) ≡ true → any t (or_none (operands (again c) (head c) bs)) ≡ false → any t (in_pat (pat_of c bs)) ≡ false
  tested_pat class.Leaf f h = refl
  tested_pat class.Name f h = refl
  tested_pat class.Run f h = refl
  tested_pat class.LetStatement f h = refl
  tested_pat class.Field f h = refl
  tested_pat class.Deref f h = refl
  tested_pat class.Ref f h = refl
  tested_pat class.OpAssign f h = refl
  tested_pat class.Assign f h = refl
  tested_pat class.Match f h = refl
  tested_pat class.Let f h = refl
  tested_pat class.Index f h = refl
  tested_pat class.Closure f h = refl
  tested_pat class.Wild f h = refl
  tested_pat class.Bind f h = bound f h
  tested_pat class.Tuple f h = to _ _ (fields bs f) h
  tested_pat class.Or f h = to _ _ (each Pat refl bs f) h
  tested_pat class.Variant f h = let a = flagged _ 4 [] bs f in (or_parts _ _ (to _ _ (a.is ∙ ap (λ l. of_sort (Flag 4) (byte_at bs 0) ∷ l) (fields (drop 1 bs) a.fits)) h)).1
  tested_pat class.Reading f h = to _ _ (each Pat refl bs f) h
  tested_pat class.RefPat f h = to _ _ (one Pat refl bs f) h
  tested_pat class.BoxPat f h = to _ _ (one Pat refl bs f) h
  tested_pat class.LocalPath f h = to _ _ (one Binding refl bs f) h
  tested_pat class.Expression f h = to _ _ (one Expr refl bs f) h
