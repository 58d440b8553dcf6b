-- The use that opens a capture is the first one under it.
use Rattle.std.proofs.Common.{◌≡◌, ℕ, Bool, true, false, cond, List, [], ◌∷◌, ◌++◌, Some, None, Option, sym, refl, ap, ◌∙◌, arith}
use Rattle.std.proofs.lemmas.Bool.{or_parts, cond-true, cond-false}
use Rattle.std.specs.List.{cons_option, filter_map}
use Rattle.cover.specs.Cover.{Used, root, some_under, opens, first_site, tells}
use Rattle.place.specs.Places.{Forest}
use Rattle.cover.proofs.Rooted.{root_under}

module _ {P S : Type 0} (under : P → P → Bool) (cut : P → P → S → S) where
  opens_at : (b : Bool) (q p : P) → ◌≡◌ {A = Option P} (cond b None (Some q)) (Some p) → (b ≡ false) × (q ≡ p)
  opens_at true q p e = let z : ◌≡◌ {A = ℕ} 0 1 = cc in absurd (omega arith)
  opens_at false q p e = (refl, cc)

  none_told : (seen us : List (Used P S)) (p : P) → some_under under seen p ≡ false → filter_map (tells under cut p) (seen ++ us) ≡ filter_map (tells under cut p) us
  none_told [] us p h = refl
  none_told (u ∷ seen) us p h =
      let a = or_parts (under u.place p) (some_under under seen p) h in
      ap (λ o. cons_option o (filter_map (tells under cut p) (seen ++ us))) (cond-false (under u.place p) _ _ a.0) ∙ none_told seen us p a.1

  pub opener_first : Forest under → (seen us : List (Used P S)) (u : Used P S) (p : P) → Some p ≡ opens under (seen ++ u ∷ us) seen u.place → first_site (filter_map (tells under cut p) (seen ++ u ∷ us)) ≡ u.mode.site
  opener_first F seen us u p e =
      let all = seen ++ u ∷ us in
      let h = opens_at (some_under under seen (root under all u.place)) (root under all u.place) p (sym e) in
      let here : under u.place p ≡ true = ap (under u.place) (sym h.1) ∙ root_under under F all u.place in
      let unseen : some_under under seen p ≡ false = ap (some_under under seen) (sym h.1) ∙ h.0 in
      ap first_site (none_told seen (u ∷ us) p unseen) ∙ ap (λ o. first_site (cons_option o (filter_map (tells under cut p) us))) (cond-true (under u.place p) _ _ here)
