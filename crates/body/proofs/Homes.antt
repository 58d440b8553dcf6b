-- The closure around a closure, if there is one, has a higher number.
use Rattle.std.proofs.Common.{◌≡◌, ℕ, zero, suc, ◌+◌, ◌<◌, Bool, true, false, cond, not, ◌||◌, eqb, ltb, List, [], ◌∷◌, ◌++◌, length, Some, None, Option, sym, refl, ap, ◌∙◌, subst, ltb-true, arith}
use Rattle.std.proofs.lemmas.Bool.{or_parts, false≢true, eqb-true}
use Rattle.std.proofs.lemmas.List.{append-nil, append_assoc, length_push}
use Rattle.std.proofs.lemmas.Option.{none-some}
use Rattle.reader.specs.Numbers.{numbered}
use Rattle.reader.specs.Operands.{any}
use Rattle.node.specs.Children.{in_node}
use Rattle.node.specs.Nodes.{ExprForm, leaf, name, run, let_statement, field, deref, ref, op_assign, assign, match_on, let_in, index, closure, NodeAt, an_expr, a_pat}
use Rattle.indexing.specs.declared.rows.Row.{Row}
use Rattle.std.specs.Option.{option_map}
use Rattle.indexing.specs.Checks.{strays, home_misfits}
use Rattle.indexing.specs.Opening.{Draft, NodeEntry}
use Rattle.body.specs.Answers.{closure_at, closure_form, closure_of, home_or, HomesRise}
use Rattle.body.specs.Drafts.{drafted}
use Rattle.body.specs.Sound.{home_of, closes, closure_numbers, rows_in, SoundNode, Behind, Sound}
use Rattle.body.proofs.Sounding.{numbers_push, drafted_sound}

-- a home that is none, or above a number
abbrev Above : ℕ → ℕ → Type 0
Above k h = 0 < h → k < h

above_by : (k h : ℕ) → not (eqb h 0 || ltb k h) ≡ false → Above k h
above_by k h e = none (eqb h 0) refl e
  where
    lower : (b : Bool) → ltb k h ≡ b → not b ≡ false → Above k h
    lower true l f p = ltb-true k h l
    lower false l f p = absurd (false≢true (sym f))

    none : (b : Bool) → eqb h 0 ≡ b → not (b || ltb k h) ≡ false → Above k h
    none true z f p = let n : h ≡ 0 = eqb-true h 0 z in absurd (omega arith)
    none false z f p = lower (ltb k h) refl f p

-- a closure's home
home_form : (k m h : ℕ) (f : ExprForm) → Above k h → Above k (home_or (closure_form m h f))
home_form k m h leaf a p = absurd (omega arith)
home_form k m h (name b) a p = absurd (omega arith)
home_form k m h (run es) a p = absurd (omega arith)
home_form k m h (let_statement q i o) a p = absurd (omega arith)
home_form k m h (field e s) a p = absurd (omega arith)
home_form k m h (deref e r) a p = absurd (omega arith)
home_form k m h (ref e r) a p = absurd (omega arith)
home_form k m h (op_assign e v) a p = absurd (omega arith)
home_form k m h (assign q v) a p = absurd (omega arith)
home_form k m h (match_on e as') a p = absurd (omega arith)
home_form k m h (let_in q v) a p = absurd (omega arith)
home_form k m h (index e i) a p = absurd (omega arith)
home_form k m h (closure e b) a p = a p

home_at : (k m : ℕ) (n : NodeAt) → Above k (home_of n) → Above k (home_or (closure_at m (Some n)))
home_at k m (an_expr e) a p = home_form k m e.home e.form a p
home_at k m (a_pat q) a p = absurd (omega arith)

numbered_behind : {X : Type 0} (before xs : List X) (x : X) → numbered (before ++ x ∷ xs) (suc (length before)) ≡ Some x
numbered_behind [] xs x = refl
numbered_behind (y ∷ ys) xs x = numbered_behind ys xs x

-- the node of a closure, and its home
pub record Node (nodes : List NodeEntry) (k m : ℕ) : Type 0 where
  pub entry : NodeEntry
  pub there : numbered nodes m ≡ Some entry
  pub above : Above k (home_of entry.node)

module _ (bindings : ℕ) where
  found : (before es : List NodeEntry) → Behind (SoundNode bindings) before es → (j m : ℕ)
      → numbered (closure_numbers (length before + 1) es) j ≡ Some m → Node (before ++ es) (length (closure_numbers 1 before) + j) m
  found before [] h zero m e = absurd (none-some m e)
  found before [] h (suc j) m e = absurd (none-some m e)
  found before (e ∷ es) h j m q = by (closes e.node) refl j q (found (before ++ e ∷ []) es h.1)
    where
      More : Type 0
      More = (j m : ℕ) → numbered (closure_numbers (length (before ++ e ∷ []) + 1) es) j ≡ Some m
          → Node ((before ++ e ∷ []) ++ es) (length (closure_numbers 1 (before ++ e ∷ [])) + j) m

      -- a closure behind this node
      on : (c : Bool) → closes e.node ≡ c → (i j : ℕ)
          → length (closure_numbers 1 before ++ cond c ((1 + length before) ∷ []) []) + i ≡ length (closure_numbers 1 before) + j
          → numbered (closure_numbers (length before + 1 + 1) es) i ≡ Some m → More → Node (before ++ e ∷ es) (length (closure_numbers 1 before) + j) m
      on c k i j s p more =
          let from : length (before ++ e ∷ []) + 1 ≡ length before + 1 + 1 = omega (arith, length_push before e) in
          let r = more i m (ap (λ n. numbered (closure_numbers n es) i) from ∙ p) in
          let number = ap (λ l. length l + i) (numbers_push 1 before e ∙ ap (λ b. closure_numbers 1 before ++ cond b ((1 + length before) ∷ []) []) k) ∙ s in
          record {
            entry = r.entry;
            there = subst (λ l. numbered l m ≡ Some r.entry) (append_assoc before (e ∷ []) es) r.there;
            above = subst (λ n. Above n (home_of r.entry.node)) number r.above;
          }

      -- this node
      here : closes e.node ≡ true → length before + 1 ≡ m → Node (before ++ e ∷ es) (length (closure_numbers 1 before) + 1) m
      here k is =
          let number = length (closure_numbers 1 before) + 1 in
          let next : suc (length before) ≡ m = omega arith in
          let housed = ap (λ b. home_misfits (rows_in before) (home_of e.node) (cond b (Some number) None) (in_node e.node)) (sym k) ∙ h.0.housed in
          record {
            entry = e;
            there = subst (λ n. numbered (before ++ e ∷ es) n ≡ Some e) next (numbered_behind before es e);
            above = above_by number (home_of e.node) (or_parts (any (strays (rows_in before) number) (in_node e.node)) _ housed).1;
          }

      by : (c : Bool) → closes e.node ≡ c → (j : ℕ)
          → numbered (cond c ((length before + 1) ∷ closure_numbers (length before + 1 + 1) es) (closure_numbers (length before + 1 + 1) es)) j ≡ Some m
          → More → Node (before ++ e ∷ es) (length (closure_numbers 1 before) + j) m
      by false k j p more = on false k j j (ap (λ l. length l + j) (append-nil (closure_numbers 1 before))) p more
      by true k zero p more = absurd (none-some m p)
      by true k (suc zero) p more = here k (cc)
      by true k (suc (suc i)) p more = on true k (suc i) (suc (suc i)) (omega (arith, length_push (closure_numbers 1 before) (1 + length before))) p more

homes_from : (d : Draft) → Sound d → HomesRise d
homes_from d s k = by (numbered d.closures k) refl
  where
    by : (o : Option ℕ) → numbered d.closures k ≡ o → Above k (home_or (closure_of d o))
    by None e p = absurd (omega arith)
    by (Some m) e p =
        let r = found (length d.bindings) [] d.nodes s.nodes k m (ap (λ l. numbered l k) (sym s.closures) ∙ e) in
        let there : closure_of d (Some m) ≡ closure_at m (Some r.entry.node) = ap (λ o. closure_at m (option_map (λ (x : NodeEntry). x.node) o)) r.there in
        subst (λ o. Above k (home_or o)) (sym there) (home_at k m r.entry.node (subst (λ n. Above n (home_of r.entry.node)) (let z : 0 + k ≡ k = omega arith in z) r.above)) p

-- so it is in every body
pub homes_rise : (rows : List Row) (file : List ℕ) → HomesRise (drafted rows file)
homes_rise rows file = homes_from (drafted rows file) (drafted_sound rows file)
