-- What the highest entry is, and the highest of a table's rows, gone through from the last.
use Rattle.std.proofs.Common.{◌≡◌, Bool, true, false, cond, List, [], ◌∷◌, ◌++◌, map, filter_map, fold, reverse, Some, None, Option, sym, refl, ap, ◌∙◌, subst, inl, inr}
use Rattle.std.specs.List.{cons_option}
use Rattle.std.proofs.lemmas.Bool.{both_ways}
use Rattle.std.proofs.lemmas.Grind.{reverse_onto, fold-append}
use Rattle.std.proofs.lemmas.List.Elements.{filter_map-append}
use Rattle.scale.specs.declared.sited.Sited.{Sited}
use Rattle.scale.specs.Highest.{higher, highest, Above, First, Tops}
use Rattle.scale.specs.Scales.{IsScale}

-- the entries of a table, of which the grading sees a view
pub entries_map : {R V E : Type 0} (f : V → Option E) (v : R → V) (rs : List R) → filter_map (λ r. f (v r)) rs ≡ filter_map f (map v rs)
entries_map f v [] = refl
entries_map f v (r ∷ rs) = ap (cons_option (f (v r))) (entries_map f v rs)

module _ {S : Type 0} (low : S) (leq : S → S → Bool) (O : IsScale low leq) where
  above_more : (xs : List (Sited S)) (r s : Sited S) → leq r.value s.value ≡ true → Above low leq xs r → Above low leq xs s
  above_more [] r s h a = tt
  above_more (x ∷ xs) r s h a = (O.chain x.value r.value s.value a.0 h, above_more xs r s h a.1)

  above_by : (x h : Sited S) (xs : List (Sited S)) (b : Bool) → leq h.value x.value ≡ b → Above low leq xs h → Above low leq (x ∷ xs) (cond b x h)
  above_by x h xs true e rest = (O.same x.value, above_more xs h x e rest)
  above_by x h xs false e rest = (O.total h.value x.value e, rest)

  above : (xs : List (Sited S)) → Above low leq xs (highest low leq xs)
  above [] = tt
  above (x ∷ xs) = above_by x (highest low leq xs) xs _ refl (above xs)

  first_by : (x h : Sited S) (xs : List (Sited S)) (b : Bool) → leq h.value x.value ≡ b → (b ≡ false → First low leq xs h) → First low leq (x ∷ xs) (cond b x h)
  first_by x h xs true e rest = inl refl
  first_by x h xs false e rest = inr (e, rest refl)

  first : (x : Sited S) (xs : List (Sited S)) → First low leq (x ∷ xs) (highest low leq (x ∷ xs))
  first x [] = first_by x (highest low leq []) [] _ refl (λ e. both_ways _ e (O.least x.value))
  first x (y ∷ ys) = first_by x (highest low leq (y ∷ ys)) (y ∷ ys) _ refl (λ _. first y ys)

  pub tops : (xs : List (Sited S)) → Tops low leq xs (highest low leq xs)
  tops [] = (refl, refl)
  tops (x ∷ xs) = (above (x ∷ xs), first x xs)

  pub tops_at : (xs : List (Sited S)) (r : Sited S) → r ≡ highest low leq xs → Tops low leq xs r
  tops_at xs r e = let P : Sited S → Type 0 = Tops low leq xs in subst P (sym e) (tops xs)

-- The rows of a table, gone through from the last.
module _ {S R : Type 0} (low : S) (leq : S → S → Bool) (f : R → Option (Sited S)) where
  abbrev step : Sited S → Sited S → Sited S
  step best entry = higher low leq entry best

  -- the highest of the entries of the rows, each put before those that came so far
  abbrev so_far : List R → Sited S
  so_far rs = fold step (record { value = low; site = 0 }) (filter_map f rs)

  one_back : (o : Option (Sited S)) (xs : List (Sited S)) → fold step (highest low leq xs) (cons_option o []) ≡ highest low leq (cons_option o xs)
  one_back None xs = refl
  one_back (Some x) xs = refl

  one_more : (rs : List R) (r : R) → so_far (rs ++ r ∷ []) ≡ fold step (so_far rs) (cons_option (f r) [])
  one_more rs r = ap (fold step (so_far [])) (filter_map-append f rs (r ∷ [])) ∙ fold-append step (so_far []) (filter_map f rs) (filter_map f (r ∷ []))

  pub all_back : (rs : List R) → so_far (reverse rs) ≡ highest low leq (filter_map f rs)
  all_back [] = refl
  all_back (r ∷ rs) =
      ap so_far (reverse_onto rs r []) ∙ one_more (reverse rs) r ∙ ap (λ b. fold step b (cons_option (f r) [])) (all_back rs) ∙ one_back (f r) (filter_map f rs)
