-- From what paths and places say back to the values.
use Rattle.std.proofs.Common.{◌≡◌, ℕ, ◌<◌, ◌≤◌, Bool, ◌&&◌, nat_eq, List, length, get_or, take, Decides, sym, refl, ap, ◌∙◌, ap₂, ⊎_elim, arith}
use denote.Struct.Record.{values_one}
use Rattle.std.proofs.lemmas.List.{length-take-le, get_or-take, ext_get_or}
use Rattle.std.proofs.lemmas.Bool.{cases_lt, and_parts, and_from}
use Rattle.std.proofs.lemmas.Bool.Decides.{same_from_decides, Decides-and, Decides-at, Decides-eqb, Decides-like}
use Rattle.std.proofs.lemmas.Slice.Eq.{slice_eq-Decides}
use Rattle.std.specs.Cmp.Lexicographic.{pointwise}
use Rattle.place.specs.declared.path.Path.{Path}
use Rattle.place.specs.declared.places.Place.{Place}
use Rattle.place.specs.contracts.path.Path.{struct, the_propositions}
use Rattle.place.specs.Places.{Spot, steps_of, spot, lies_under, same_spot}
use Rattle.place.proofs.Prefixes.{ancestry}

pub length_steps : (p : Path) → length (steps_of p) ≡ p.len
length_steps p = length-take-le p.len p.steps (let w = p.whole in let s = p.short in omega arith)

module _ (p q : Path) (e : steps_of p ≡ steps_of q) where
  len_one : p.len ≡ q.len
  len_one = sym (length_steps p) ∙ ap length e ∙ length_steps q

  at_one : (k : ℕ) → get_or p.steps k 0 ≡ get_or q.steps k 0
  at_one k =
      ⊎_elim
      (λ h. let g : k < q.len = omega (arith, len_one) in sym (get_or-take p.len p.steps k 0 h) ∙ ap (λ l. get_or l k 0) e ∙ get_or-take q.len q.steps k 0 g)
      (λ h. let g : q.len ≤ k = omega (arith, len_one) in p.clear k h ∙ sym (q.clear k g))
      (cases_lt k p.len)

  -- paths with the same steps are the same value, since zeros stand behind the end of each
  pub path_one : p ≡ q
  path_one = values_one struct the_propositions p q (ap₂ {C = List ℕ × (ℕ × Unit {0})} (λ s n. (s, (n, tt))) (ext_get_or 0 p.steps q.steps (p.whole ∙ sym q.whole) (λ k h. at_one k)) len_one)

pub place_one : (p q : Place) → spot p ≡ spot q → p ≡ q
place_one p q e = ap₂ {C = Place} (λ b l. record { binding = b; path = l }) (ap (λ s. s.binding) e) (path_one p.path q.path (ap (λ s. s.path) e))

-- places that lie under one another are the same value
same_decides : (p q : Place) → Decides (same_spot (spot p) (spot q)) (p ≡ q)
same_decides p q = (
  (λ t. let a = and_parts (lies_under (spot p) (spot q)) (lies_under (spot q) (spot p)) t in place_one p q (ancestry.one (spot p) (spot q) a.0 a.1)),
  (λ h. ap (λ x. same_spot (spot p) (spot x)) (sym h) ∙ and_from (lies_under (spot p) (spot p)) (lies_under (spot p) (spot p)) (ancestry.self (spot p)) (ancestry.self (spot p))),
)

-- what `==` says of two places
pub equal_is : (p q : Place) (r : Bool) → r ≡ (nat_eq p.binding q.binding && (pointwise nat_eq p.path.steps q.path.steps && nat_eq p.path.len q.path.len)) → Decides r (p ≡ q)
equal_is p q r e =
    let parts = Decides-and _ _ (Decides-eqb p.binding q.binding) (Decides-and _ _ (slice_eq-Decides Decides-eqb p.path.steps q.path.steps _ refl) (Decides-eqb p.path.len q.path.len)) in
    Decides-at r _ e
    (Decides-like _ (λ h. place_one p q (ap₂ {C = Spot} (λ b l. record { binding = b; path = l }) h.0 (ap₂ take h.1.1 h.1.0))) (λ h. (ap (λ x. x.binding) h, (ap (λ x. x.path.steps) h, ap (λ x. x.path.len) h))) parts)

pub same_is : (p q : Place) (r : Bool) → Decides r (p ≡ q) → r ≡ same_spot (spot p) (spot q)
same_is p q r d = same_from_decides r _ d (same_decides p q)
