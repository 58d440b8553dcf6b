-- What a cover answers, by the number of captures and the room for them.
use Rattle.std.proofs.Common.{◌≡◌, ℕ, ◌+◌, ◌≤◌, Bool, List, [], ◌∷◌, ◌++◌, map, length, Some, None, Option, sym, ◌∙◌, arith}
use Rattle.std.proofs.lemmas.List.{length-map}
use Rattle.std.specs.List.{cons_option}
use Rattle.place.specs.Places.{Spot, lies_under}
use Rattle.place.specs.declared.uses.Use.{Use}
use Rattle.cover.specs.Cover.{Used, opens, roots, capture_at}
use Rattle.cover.specs.Views.{used, captures_of}

then_few : {X : Type 0} (o : Option X) (xs : List X) (n : ℕ) → length xs ≤ n → length (cons_option o xs) ≤ n + 1
then_few None xs n h = omega arith
then_few (Some x) xs n h = omega arith

-- there are no more captures than uses
roots_few : {P S : Type 0} (under : P → P → Bool) (all seen us : List (Used P S)) → length (roots under all seen us) ≤ length us
roots_few under all seen [] = omega arith
roots_few under all seen (u ∷ us) = omega (arith, then_few (opens under all seen u.place) (roots under all (seen ++ u ∷ []) us) (length us) (roots_few under all (seen ++ u ∷ []) us))

module _ {S : Type 0} (cut : Spot → Spot → S → S) (low : S) (leq : S → S → Bool) (us : List (Use S)) where
  pub captures_count : length (captures_of cut low leq us) ≡ length (roots lies_under (map used us) [] (map used us))
  captures_count = length-map (roots lies_under (map used us) [] (map used us)) (capture_at lies_under cut low leq (map used us))

  pub captures_few : length (captures_of cut low leq us) ≤ length us
  captures_few = omega (arith, captures_count, roots_few lies_under (map used us) [] (map used us), length-map us used)

  pub count_is : (n : ℕ) → n ≡ length (roots lies_under (map used us) [] (map used us)) → n ≡ length (captures_of cut low leq us)
  count_is n e = e ∙ sym captures_count
