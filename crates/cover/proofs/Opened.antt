-- The captures one by one: each is the one that some use opens, in the order of the uses.
use Rattle.std.proofs.Common.{◌≡◌, ℕ, zero, suc, ◌+◌, ◌-◌, ◌<◌, ◌≤◌, Bool, cond, List, [], ◌∷◌, ◌++◌, map, filter, length, get_or, take, drop, is_some, Some, None, Option, sym, refl, ap, ◌∙◌, ap₂, arith}
use mathlib.Core.List.{map-append}
use Rattle.std.specs.Option.{option_map}
use Rattle.std.specs.List.{cons_option, filter_map, range_with_len}
use Rattle.std.proofs.lemmas.List.{at_drop_all, take-append-drop, take_more, drop_more, take-map, drop-map, length-map}
use Rattle.scale.specs.Highest.{highest}
use Rattle.place.specs.Places.{Spot, spot, lies_under}
use Rattle.place.specs.declared.places.Place.{Place}
use Rattle.place.specs.declared.uses.Use.{Use}
use Rattle.place.specs.declared.uses.Capture.{Capture}
use Rattle.place.proofs.Prefixes.{ancestry}
use Rattle.cover.specs.Cover.{Used, Captured, opens, opens_next, roots, first_site, tells, capture_at, capture_opened}
use Rattle.cover.specs.Views.{used, captured, place_opened, opened_of}
use Rattle.cover.proofs.Openers.{opener_first}
use Rattle.cover.proofs.Scans.{drop_read}

-- the next entry of a list, from which on it is left
next_at : {X : Type 0} (xs : List X) (i : ℕ) → i < length xs → (x : X) × (drop i xs ≡ x ∷ drop (i + 1) xs) × (take (i + 1) xs ≡ take i xs ++ x ∷ [])
next_at [] i h = absurd (omega arith)
next_at (x ∷ xs) i h = (get_or (x ∷ xs) i x, drop_more (x ∷ xs) i x h, take_more (x ∷ xs) i x h)

map_then : {X Y : Type 0} (f : X → Y) (o : Option X) (xs : List X) → map f (cons_option o xs) ≡ cons_option (option_map f o) (map f xs)
map_then f None xs = refl
map_then f (Some x) xs = refl

length_then : {X : Type 0} (o : Option X) (xs : List X) (i : ℕ) (is : List ℕ) → length is ≡ length xs → length (cond (is_some o) (i ∷ is) is) ≡ length (cons_option o xs)
length_then None xs i is e = e
length_then (Some x) xs i is e = ap (λ n. suc n) e

pub opens_some : (o : Option Place) (p : Option Spot) (b : Bool) → b ≡ is_some o → option_map spot o ≡ p → b ≡ is_some p
opens_some None p b e h = e ∙ ap is_some h
opens_some (Some q) p b e h = e ∙ ap is_some h

-- the places and the captures that the uses from the i-th on open
module _ {P S : Type 0} (under : P → P → Bool) (us : List (Used P S)) where
  abbrev next : ℕ → Option P
  next i = opens_next under us (take i us) (drop i us)

  abbrev pub roots_from : ℕ → List P
  roots_from i = roots under us (take i us) (drop i us)

  roots_next : (i : ℕ) → i < length us → roots_from i ≡ cons_option (next i) (roots_from (i + 1))
  roots_next i h =
      let a = next_at us i h in
      ap (roots under us (take i us)) a.1 ∙ ap₂ (λ o l. cons_option o (roots under us l (drop (i + 1) us))) (ap (opens_next under us (take i us)) (sym a.1)) (sym a.2)

  roots_end : (i : ℕ) → length us ≤ i → roots_from i ≡ []
  roots_end i h = at_drop_all (roots under us (take i us)) us i h

  -- as many are opened as uses open one
  roots_count : (i k : ℕ) → i + k ≡ length us → length (filter (λ j. is_some (next j)) (range_with_len i k)) ≡ length (roots_from i)
  roots_count i zero e = sym (ap length (roots_end i (omega arith)))
  roots_count i (suc k) e = length_then (next i) (roots_from (i + 1)) i _ (roots_count (i + 1) k (omega arith)) ∙ sym (ap length (roots_next i (omega arith)))

module _ {P S : Type 0} (under : P → P → Bool) (cut : P → P → S → S) (low : S) (leq : S → S → Bool) (us : List (Used P S)) where
  abbrev pub captures_from : ℕ → List (Captured P S)
  captures_from i = map (capture_at under cut low leq us) (roots_from under us i)

  pub captures_next : (i : ℕ) → i < length us → captures_from i ≡ cons_option (capture_opened under cut low leq us i) (captures_from (i + 1))
  captures_next i h = let at = capture_at under cut low leq us in ap (map at) (roots_next under us i h) ∙ map_then at (next under us i) (roots_from under us (i + 1))

  pub captures_end : (i : ℕ) → length us ≤ i → captures_from i ≡ []
  captures_end i h = ap (map (capture_at under cut low leq us)) (roots_end under us i h)

-- what the rows of the use table open
module _ {S : Type 0} (us : List (Use S)) where
  pub places_count : length (filter (λ i. is_some (place_opened us i)) (range_with_len 0 (length us))) ≡ length (roots lies_under (map used us) [] (map used us))
  places_count = roots_count lies_under (map used us) 0 (length us) (omega (arith, length-map us used))

  module _ (i : ℕ) where
    abbrev next_row : List (Use S) → Option Spot
    next_row l = opens_next lies_under (map used us) (map used (take i us)) (map used l)

    by_rows : place_opened us i ≡ next_row (drop i us)
    by_rows = ap₂ (opens_next lies_under (map used us)) (take-map used i us) (drop-map used i us)

    module _ (x : Use S) (h : i < length us) (read : x ≡ get_or us i x) where
      at_row : place_opened us i ≡ opens lies_under (map used us) (map used (take i us)) (spot x.place)
      at_row = by_rows ∙ ap next_row (drop_read us i x h read)

      pub opened_here : (o : Option Place) → option_map spot o ≡ opens lies_under (map used us) (map used (take (i - 0) us)) (spot x.place) → option_map spot o ≡ place_opened us i
      opened_here o is = let z : i - 0 ≡ i = omega arith in is ∙ ap (λ k. opens lies_under (map used us) (map used (take k us)) (spot x.place)) z ∙ sym at_row

      -- the use that opens a capture is the first under it
      pub opener_is : (cut : Spot → Spot → S → S) (p : Spot) → Some p ≡ place_opened us i → first_site (filter_map (tells lies_under cut p) (map used us)) ≡ x.mode.site
      opener_is cut p some =
          let split : map used us ≡ map used (take i us) ++ used x ∷ map used (drop (i + 1) us) = ap (map used) (sym (take-append-drop i us) ∙ ap (λ r. take i us ++ r) (drop_read us i x h read)) ∙ map-append used (take i us) (x ∷ drop (i + 1) us) in
          ap (λ r. first_site (filter_map (tells lies_under cut p) r)) split
          ∙ opener_first lies_under cut ancestry (map used (take i us)) (map used (drop (i + 1) us)) (used x) p (some ∙ at_row ∙ ap (λ r. opens lies_under r (map used (take i us)) (spot x.place)) split)

-- the capture that a row opens at a place
module _ {S : Type 0} (cut : Spot → Spot → S → S) (low : S) (leq : S → S → Bool) (us : List (Use S)) (i : ℕ) where
  abbrev at : Spot → Captured Spot S
  at p = capture_at lies_under cut low leq (map used us) p

  pub one_opened : (x : Use S) → i < length us → x ≡ get_or us i x → (p : Place) → Some (spot p) ≡ place_opened us i → (c : Capture S) → c.place ≡ p → c.mode ≡ highest low leq (filter_map (tells lies_under cut (spot p)) (map used us)) → c.first ≡ x.mode.site → Some (captured c) ≡ opened_of cut low leq us i
  one_opened x h read p some c place mode first =
      let is_c : captured c ≡ at (spot p) = ap (λ q. record { place = spot q; mode = c.mode; first = c.first }) place ∙ ap₂ {C = Captured Spot S} (λ m s. record { place = spot p; mode = m; first = s }) mode (first ∙ sym (opener_is us i x h read cut (spot p) some)) in
      ap {B = Option (Captured Spot S)} (λ y. Some y) is_c ∙ ap (option_map at) some
