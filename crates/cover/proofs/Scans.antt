-- What a scan of the use table comes to.
use Rattle.std.proofs.Common.{◌≡◌, ◌||◌, cond, ℕ, ◌+◌, ◌<◌, List, [], ◌∷◌, ◌++◌, map, length, get_or, drop, sym, refl, ap, ◌∙◌}
use Rattle.std.specs.List.{list_any}
use Rattle.std.proofs.lemmas.List.{drop_more}
use Rattle.place.specs.Places.{Spot, spot, lies_under}
use Rattle.place.specs.declared.places.Place.{Place}
use Rattle.place.specs.declared.uses.Use.{Use}
use Rattle.cover.specs.Cover.{root, some_under}
use Rattle.cover.specs.Views.{used}

-- what is left of a table, by its next row
pub drop_read : {X : Type 0} (xs : List X) (i : ℕ) (x : X) → i < length xs → x ≡ get_or xs i x → drop i xs ≡ x ∷ drop (i + 1) xs
drop_read xs i x h read = drop_more xs i x h ∙ ap (λ y. y ∷ drop (i + 1) xs) (sym read)

-- one step of the climb to the root
abbrev step : Spot → Spot → Spot
step t q = cond (lies_under t q) q t

module _ {S : Type 0} where
  pub any_used : (us : List (Use S)) (p : Spot) → list_any (λ u. lies_under (spot u.place) p) us ≡ some_under lies_under (map used us) p
  any_used [] p = refl
  any_used (u ∷ us) p = ap (λ b. lies_under (spot u.place) p || b) (any_used us p)

  root_push : (us : List (Use S)) (x : Use S) (p : Spot) → root lies_under (map used (us ++ x ∷ [])) p ≡ step (root lies_under (map used us) p) (spot x.place)
  root_push [] x p = refl
  root_push (u ∷ us) x p = root_push us x (step p (spot u.place))

  -- the root so far, after one more use
  pub root_more : (us : List (Use S)) (x : Use S) (p : Spot) (a b : Place) → spot a ≡ root lies_under (map used us) p → spot b ≡ cond (lies_under (spot a) (spot x.place)) (spot x.place) (spot a) → spot b ≡ root lies_under (map used (us ++ x ∷ [])) p
  root_more us x p a b so_far went = went ∙ ap (λ t. step t (spot x.place)) so_far ∙ sym (root_push us x p)
