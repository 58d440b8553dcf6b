-- What stands in a mapped list, among the entries of a table, and at the top of them.
use Rattle.std.proofs.Common.{◌≡◌, Bool, true, List, [], ◌∷◌, map, Some, None, Option, sym, refl, ap, ◌∙◌, subst, inl, inr}
use Rattle.std.specs.List.{cons_option, filter_map}
use Rattle.scale.specs.Highest.{highest, Above, First}
use Rattle.scale.specs.declared.sited.Sited.{Sited}
use Rattle.scale.proofs.Highests.{tops}
use Rattle.scale.specs.Scales.{IsScale}
use Rattle.cover.specs.Covering.{In}

module _ {X Y : Type 0} (f : X → Y) where
  pub in_map : (xs : List X) (x : X) → In x xs → In (f x) (map f xs)
  in_map [] x i = absurd i
  in_map (y ∷ ys) x (inl e) = inl (ap f e)
  in_map (y ∷ ys) x (inr i) = inr (in_map ys x i)

  pub map_in : (xs : List X) (y : Y) → In y (map f xs) → (x : X) × In x xs × (y ≡ f x)
  map_in [] y i = absurd i
  map_in (x ∷ xs) y (inl e) = (x, inl refl, e)
  map_in (x ∷ xs) y (inr i) = let h = map_in xs y i in (h.0, inr h.1, h.2)

module _ {R E : Type 0} (f : R → Option E) where
  pub in_then : (o : Option E) (es : List E) (e : E) → In e es → In e (cons_option o es)
  in_then None es e i = i
  in_then (Some x) es e i = inr i

  pub in_entries : (rs : List R) (r : R) (e : E) → In r rs → f r ≡ Some e → In e (filter_map f rs)
  in_entries [] r e i h = absurd i
  in_entries (x ∷ rs) r e (inl is) h = subst (λ o. In e (cons_option o (filter_map f rs))) (sym (ap f (sym is) ∙ h)) (inl refl)
  in_entries (x ∷ rs) r e (inr i) h = in_then (f x) (filter_map f rs) e (in_entries rs r e i h)

  pub entries_in : (rs : List R) (e : E) → In e (filter_map f rs) → (r : R) × In r rs × (f r ≡ Some e)
  entries_in [] e i = absurd i
  entries_in (x ∷ rs) e i = go (f x) refl i (λ j. let k = entries_in rs e j in (k.0, inr k.1, k.2))
    where
      go : (o : Option E) → f x ≡ o → In e (cons_option o (filter_map f rs)) → (In e (filter_map f rs) → (r : R) × In r (x ∷ rs) × (f r ≡ Some e)) → (r : R) × In r (x ∷ rs) × (f r ≡ Some e)
      go None h j later = later j
      go (Some y) h (inl is) later = (x, inl refl, h ∙ ap Some (sym is))
      go (Some y) h (inr j) later = later j

module _ {S : Type 0} (low : S) (leq : S → S → Bool) where
  above_in : (es : List (Sited S)) (r e : Sited S) → Above low leq es r → In e es → leq e.value r.value ≡ true
  above_in [] r e a i = absurd i
  above_in (x ∷ es) r e a (inl is) = ap (λ y. leq y.value r.value) is ∙ a.0
  above_in (x ∷ es) r e a (inr i) = above_in es r e a.1 i

  first_in : (es : List (Sited S)) (r : Sited S) → First low leq es r → In r es
  first_in [] r f = absurd f
  first_in (x ∷ es) r (inl is) = inl (sym is)
  first_in (x ∷ es) r (inr f) = inr (first_in es r f.1)

  module _ (O : IsScale low leq) where
    pub highest_above : (es : List (Sited S)) (e : Sited S) → In e es → leq e.value (highest low leq es).value ≡ true
    highest_above [] e i = absurd i
    highest_above (x ∷ es) e i = above_in (x ∷ es) (highest low leq (x ∷ es)) e (tops low leq O (x ∷ es)).0 i

    pub highest_in : (es : List (Sited S)) (e : Sited S) → In e es → In (highest low leq es) es
    highest_in [] e i = absurd i
    highest_in (x ∷ es) e i = first_in (x ∷ es) (highest low leq (x ∷ es)) (tops low leq O (x ∷ es)).1
