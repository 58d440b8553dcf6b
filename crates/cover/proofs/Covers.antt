-- The captures of a list of uses cover them: the least lawful list that serves every use.
use Rattle.std.proofs.Common.{◌≡◌, ℕ, Bool, true, false, cond, ◌↔◌, List, [], ◌∷◌, map, Some, None, Option, sym, refl, ap, ◌∙◌, subst, ap₂, inl, inr, ⊎_elim, arith}
use Rattle.std.proofs.lemmas.Bool.{both_ways, cond-true}
use Rattle.std.specs.List.{filter_map}
use Rattle.scale.specs.declared.sited.Sited.{Sited}
use Rattle.cover.specs.Cover.{Used, Captured, root, roots, tells, capture_at, captures}
use Rattle.cover.specs.Covering.{Rules, Entry, asked, given, In, Within, Same, Lawful, Serves, Served, ServesAll, Top, ServedByOne, Covers, ServedAlike}
use Rattle.cover.proofs.Members.{in_map, map_in, in_entries, entries_in, highest_above, highest_in}
use Rattle.cover.proofs.Rooted.{At, Crown, root_under, root_crown, root_at, root_one, roots_in, roots_are, Spread, roots_spread}

module _ {P S : Type 0} (under : P → P → Bool) (cut : P → P → S → S) (low : S) (leq : S → S → Bool) (R : Rules under cut low leq) where
  -- of two filter_map of a lawful list, one under the other, each is the other
  lawful_one : (cs : List (Entry P S)) (c d : Entry P S) → Lawful under cut low leq cs → In c cs → In d cs → under c.place d.place ≡ true → c ≡ d
  lawful_one [] c d law i j h = absurd i
  lawful_one (x ∷ cs) c d law (inl e) (inl f) h = e ∙ sym f
  lawful_one (x ∷ cs) c d law (inl e) (inr j) h = absurd (both_ways _ (law.0 d j).0 (ap (λ y. under y.place d.place) (sym e) ∙ h))
  lawful_one (x ∷ cs) c d law (inr i) (inl f) h = absurd (both_ways _ (law.0 c i).1 (ap (λ y. under c.place y.place) (sym f) ∙ h))
  lawful_one (x ∷ cs) c d law (inr i) (inr j) h = lawful_one cs c d law.1 i j h

  -- a place lies under one entry of a lawful list at most
  lawful_over : (cs : List (Entry P S)) (p : P) (c d : Entry P S) → Lawful under cut low leq cs → In c cs → In d cs → under p c.place ≡ true → under p d.place ≡ true → c ≡ d
  lawful_over cs p c d law i j h k =
      ⊎_elim (λ e. lawful_one cs c d law i j e) (λ e. sym (lawful_one cs d c law j i e)) (R.places.line p c.place d.place h k)

  -- a lawful list serves at p what a use under p asks there, if it serves the use and has an entry over p
  served_up : (ds : List (Entry P S)) → Lawful under cut low leq ds → (p : P) (x : S) (u : Used P S) (a b : Entry P S) → In a ds → In b ds → under p a.place ≡ true → under u.place p ≡ true → cut u.place p u.mode.value ≡ x → Serves under cut low leq b (asked u) → Served under cut low leq ds (record { place = p; mode = x })
  served_up ds law p x u a b i j over down is serves =
      let one : a ≡ b = lawful_over ds u.place a b law i j (R.places.far u.place p a.place down over) serves.0 in
      let up : under p b.place ≡ true = ap (λ y. under p y.place) (sym one) ∙ over in
      let cuts : cut p b.place x ≡ cut u.place b.place u.mode.value = ap (cut p b.place) (sym is) ∙ R.cuts.twice u.place p b.place u.mode.value down up in
      (b, j, (up, ap (λ y. leq y b.mode) cuts ∙ serves.1))

  module _ (us : List (Used P S)) where
    abbrev rts : List P
    rts = roots under us [] us

    abbrev told : P → List (Sited S)
    told p = filter_map (tells under cut p) us

    abbrev cap : P → Captured P S
    cap p = capture_at under cut low leq us p

    root_is : (p : P) → In p rts → At under us p × Crown under us p
    root_is p i =
        let h = roots_are under R.places us us [] p i in
        let at = root_at under R.places us h.0.place (h.0, h.1, refl) in
        let crown = root_crown under R.places us h.0.place in
        (subst (At under us) (sym h.2) at, subst (Crown under us) (sym h.2) crown)

    in_roots : (u : Used P S) → In u us → In (root under us u.place) rts
    in_roots u i = roots_in under R.places us us [] (λ v j. j) u i refl

    -- a captured place is a used one that none is above, and each such place is captured
    top_root : (p : P) → Top under cut low leq us p → In p rts
    top_root p t =
        let u = t.0.0 in
        let at = root_at under R.places us u.place (u, t.0.1, refl) in
        let up : under p at.0.place ≡ true = ap₂ (λ x y. under x y) (sym t.0.2) at.2 ∙ root_under under R.places us u.place in
        let is : root under us u.place ≡ p = sym at.2 ∙ t.1 at.0 at.1 up in
        subst (λ y. In y rts) is (in_roots u t.0.1)

    root_top : (p : P) → In p rts → Top under cut low leq us p
    root_top p i = let h = root_is p i in (h.0, λ v j k. sym (R.places.one p v.place k (h.1 v j k)))

    places_are : (p : P) → In p (map (λ c. c.place) (captures under cut low leq us)) → In p rts
    places_are p i =
        let c = map_in (λ (c : Captured P S). c.place) (captures under cut low leq us) p i in
        let q = map_in cap rts c.0 c.1 in
        subst (λ y. In y rts) (sym (c.2 ∙ ap (λ y. y.place) q.2)) q.1

    places_in : (p : P) → In p rts → In p (map (λ c. c.place) (captures under cut low leq us))
    places_in p i = in_map (λ (c : Captured P S). c.place) (captures under cut low leq us) (cap p) (in_map cap rts p i)

    lawful_spread : (ps : List P) → Spread under R.places us ps → Lawful under cut low leq (map given (map cap ps))
    lawful_spread [] s = tt
    lawful_spread (p ∷ ps) s = (apart, lawful_spread ps s.1)
      where
        apart : (d : Entry P S) → In d (map given (map cap ps)) → (under p d.place ≡ false) × (under d.place p ≡ false)
        apart d i =
            let c = map_in given (map cap ps) d i in
            let q = map_in cap ps c.0 c.1 in
            let is : d.place ≡ q.0 = ap (λ y. y.place) c.2 ∙ ap (λ y. y.place) q.2 in
            let two = s.0 q.0 q.1 in
            (ap (under p) is ∙ two.0, ap (λ y. under y p) is ∙ two.1)

    pub captures_lawful : Lawful under cut low leq (map given (captures under cut low leq us))
    captures_lawful = lawful_spread rts (roots_spread under R.places us us [] (λ v j. j))

    -- the mode of a capture is at least what a use under it tells, and is what one of them tells
    tells_some : (p : P) (u : Used P S) → under u.place p ≡ true → tells under cut p u ≡ Some (record { value = cut u.place p u.mode.value; site = u.mode.site })
    tells_some p u h = cond-true (under u.place p) _ _ h

    some_tells : (p : P) (u : Used P S) (e : Sited S) → tells under cut p u ≡ Some e → (under u.place p ≡ true) × (cut u.place p u.mode.value ≡ e.value)
    some_tells p u e h = go (under u.place p) refl h
      where
        x : Sited S
        x = record { value = cut u.place p u.mode.value; site = u.mode.site }

        go : (b : Bool) → under u.place p ≡ b → ◌≡◌ {A = Option (Sited S)} (cond b (Some (record { value = cut u.place p u.mode.value; site = u.mode.site })) None) (Some e) → (under u.place p ≡ true) × (cut u.place p u.mode.value ≡ e.value)
        go true is k = (is, cc)
        go false is k = let z : ◌≡◌ {A = ℕ} 0 1 = cc in absurd (omega arith)

    mode_above : (p : P) (u : Used P S) → In u us → under u.place p ≡ true → leq (cut u.place p u.mode.value) (cap p).mode.value ≡ true
    mode_above p u i h = highest_above low leq R.scale (told p) _ (in_entries (tells under cut p) us u _ i (tells_some p u h))

    mode_told : (p : P) → At under us p → (u : Used P S) × In u us × (under u.place p ≡ true) × (cut u.place p u.mode.value ≡ (cap p).mode.value)
    mode_told p at =
        let v = at.0 in
        let one = in_entries (tells under cut p) us v _ at.1 (tells_some p v (ap (under v.place) (sym at.2) ∙ R.places.self v.place)) in
        let u = entries_in (tells under cut p) us (cap p).mode (highest_in low leq R.scale (told p) _ one) in
        let s = some_tells p u.0 (cap p).mode u.2 in
        (u.0, u.1, s.0, s.1)

    -- each use lies under one capture, which serves it
    pub captures_serve : (u : Used P S) → In u us → ServedByOne under cut low leq (captures under cut low leq us) u
    captures_serve u i = (cap q, in_map cap rts q (in_roots u i), (root_under under R.places us u.place, mode_above q u i (root_under under R.places us u.place)), only)
      where
        q : P
        q = root under us u.place

        only : (d : Captured P S) → In d (captures under cut low leq us) → under u.place d.place ≡ true → d ≡ cap (root under us u.place)
        only d j h =
            let p = map_in cap rts d j in
            let r = root_is p.0 p.1 in
            let is = root_one under R.places us u.place p.0 (u, i, refl) r.0 r.1 (ap (λ y. under u.place y.place) (sym p.2) ∙ h) in
            p.2 ∙ ap cap (sym is)

    -- a lawful list that serves the uses serves the captures
    pub captures_least : (ds : List (Entry P S)) → Lawful under cut low leq ds → ServesAll under cut low leq ds (map asked us) → ServesAll under cut low leq ds (map given (captures under cut low leq us))
    captures_least ds law serves c i =
        let k = map_in given (captures under cut low leq us) c i in
        let q = map_in cap rts k.0 k.1 in
        let p = q.0 in
        let u = (root_is p q.1).0 in
        let v = mode_told p u in
        let a = serves (asked u.0) (in_map asked us u.0 u.1) in
        let b = serves (asked v.0) (in_map asked us v.0 v.1) in
        let up : under p a.0.place ≡ true = ap (λ y. under y a.0.place) (sym u.2) ∙ a.2.0 in
        subst (Served under cut low leq ds) (sym (k.2 ∙ ap given q.2)) (served_up ds law p (cap p).mode.value v.0 a.0 b.0 a.1 b.1 up v.2 v.3 b.2)

    -- what serves the captures serves the uses
    pub captures_enough : (ds : List (Entry P S)) → ServesAll under cut low leq ds (map given (captures under cut low leq us)) → ServesAll under cut low leq ds (map asked us)
    captures_enough ds serves e i =
        let u = map_in asked us e i in
        let c = captures_serve u.0 u.1 in
        let d = serves (given c.0) (in_map given (captures under cut low leq us) c.0 c.1) in
        let far = R.places.far _ _ _ c.2.0 d.2.0 in
        let le = R.cuts.keeps _ _ _ _ d.2.0 c.2.1 in
        let once = R.cuts.twice _ _ _ u.0.mode.value c.2.0 d.2.0 in
        subst (Served under cut low leq ds) (sym u.2) (d.0, d.1, (far, R.scale.chain _ _ _ (ap (λ y. leq y (cut c.0.place d.0.place c.0.mode.value)) (sym once) ∙ le) d.2.1))

  abbrev caps : List (Used P S) → List (Entry P S)
  caps us = map given (captures under cut low leq us)

  serve_own : (us : List (Used P S)) → ServesAll under cut low leq (caps us) (map asked us)
  serve_own us e i =
      let u = map_in asked us e i in
      let c = captures_serve us u.0 u.1 in
      subst (Served under cut low leq (caps us)) (sym u.2) (given c.0, in_map given (captures under cut low leq us) c.0 c.1, c.2)

  -- the same captures: the same lawful lists serve
  same_served : (us vs : List (Used P S)) → Within (caps vs) (caps us) → (ds : List (Entry P S)) → Lawful under cut low leq ds → ServesAll under cut low leq ds (map asked us) → ServesAll under cut low leq ds (map asked vs)
  same_served us vs sub ds law serves = captures_enough vs ds (λ c i. captures_least us ds law serves c (sub c i))

  -- the same lawful lists serve: the same captures
  served_same : (us vs : List (Used P S)) → ServesAll under cut low leq (caps us) (map asked vs) → ServesAll under cut low leq (caps vs) (map asked us) → Within (caps us) (caps vs)
  served_same us vs on_vs on_us c i =
      let d = captures_least us (caps vs) (captures_lawful vs) on_us c i in
      let e = captures_least vs (caps us) (captures_lawful us) on_vs d.0 d.1 in
      let back : c ≡ e.0 = lawful_one (caps us) c e.0 (captures_lawful us) i e.1 (R.places.far _ _ _ d.2.0 e.2.0) in
      let down : under d.0.place c.place ≡ true = ap (λ y. under d.0.place y.place) back ∙ e.2.0 in
      let place : c.place ≡ d.0.place = R.places.one _ _ d.2.0 down in
      let le : leq c.mode d.0.mode ≡ true = ap (λ y. leq y d.0.mode) (sym (ap (λ y. cut c.place y c.mode) (sym place) ∙ R.cuts.none _ _)) ∙ d.2.1 in
      let ge : leq d.0.mode c.mode ≡ true = ap₂ (λ y z. leq y z) (sym (ap (λ y. cut d.0.place y d.0.mode) (ap (λ y. y.place) (sym back) ∙ place) ∙ R.cuts.none _ _)) (ap (λ y. y.mode) back) ∙ e.2.1 in
      subst (λ y. In y (caps vs)) (ap₂ {C = Entry P S} (λ p m. record { place = p; mode = m }) (sym place) (sym (R.scale.both _ _ le ge))) d.1

  pub captures_alike : (us vs : List (Used P S)) → Same (caps us) (caps vs) ↔ ServedAlike under cut low leq us vs
  captures_alike us vs = (
    (λ same ds law. (same_served us vs same.1 ds law, same_served vs us same.0 ds law)),
    (λ alike.
        let on_vs = (alike (caps us) (captures_lawful us)).0 (serve_own us) in
        let on_us = (alike (caps vs) (captures_lawful vs)).1 (serve_own vs) in
        (served_same us vs on_vs on_us, served_same vs us on_us on_vs)),
  )

  pub captures_cover : (us : List (Used P S)) → Covers under cut low leq us (captures under cut low leq us)
  captures_cover us = record {
    places = λ p. ((λ t. places_in us p (top_root us p t)), (λ i. root_top us p (places_are us p i)));
    lawful = captures_lawful us;
    serves = captures_serve us;
    least = captures_least us;
    alike = captures_alike us;
  }
