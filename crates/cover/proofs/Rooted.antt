-- The roots of a list of uses: used places that no used place lies above, none under another.
use Rattle.std.proofs.Common.{◌≡◌, Bool, true, false, cond, ◌⊎◌, List, [], ◌∷◌, ◌++◌, Some, None, sym, refl, ap, ◌∙◌, subst, inl, inr, ⊎_elim}
use Rattle.std.proofs.lemmas.Bool.{both_ways, or_parts, or_from, cases_Bool, cond-true, cond-false}
use Rattle.std.specs.List.{cons_option}
use Rattle.cover.specs.Cover.{Used, root, some_under, opens, roots}
use Rattle.place.specs.Places.{Forest}
use Rattle.cover.specs.Covering.{In, Within}
use Rattle.cover.proofs.Members.{in_then}

step_under : {P : Type 0} (under : P → P → Bool) → Forest under → (p q : P) (b : Bool) → under p q ≡ b → under p (cond b q p) ≡ true
step_under under A p q true e = e
step_under under A p q false e = A.self p

module _ {P S : Type 0} (under : P → P → Bool) where
  -- a use stands at p
  abbrev pub At : List (Used P S) → P → Type 0
  At us p = (u : Used P S) × In u us × (u.place ≡ p)

  -- no use stands above p
  abbrev pub Crown : List (Used P S) → P → Type 0
  Crown us p = (v : Used P S) → In v us → under p v.place ≡ true → under v.place p ≡ true

  at_more : (u : Used P S) (us : List (Used P S)) (p : P) → At us p → At (u ∷ us) p
  at_more u us p h = (h.0, inr h.1, h.2)

  unseen_push : (seen : List (Used P S)) (x : Used P S) (p : P) → some_under under seen p ≡ false → under x.place p ≡ false → some_under under (seen ++ x ∷ []) p ≡ false
  unseen_push [] x p s h = or_from _ _ h refl
  unseen_push (y ∷ seen) x p s h = let a = or_parts (under y.place p) (some_under under seen p) s in or_from _ _ a.0 (unseen_push seen x p a.1 h)

  push_unseen : (seen : List (Used P S)) (x : Used P S) (p : P) → some_under under (seen ++ x ∷ []) p ≡ false → (some_under under seen p ≡ false) × (under x.place p ≡ false)
  push_unseen [] x p h = (refl, (or_parts (under x.place p) false h).0)
  push_unseen (y ∷ seen) x p h =
      let a = or_parts (under y.place p) (some_under under (seen ++ x ∷ []) p) h in
      let b = push_unseen seen x p a.1 in
      (or_from _ _ a.0 b.0, b.1)

  module _ (A : Forest under) where
    pub root_under : (us : List (Used P S)) (p : P) → under p (root under us p) ≡ true
    root_under [] p = A.self p
    root_under (u ∷ us) p = A.far _ _ _ (step_under under A p u.place _ refl) (root_under us (cond (under p u.place) u.place p))

    pub root_crown : (us : List (Used P S)) (p : P) → Crown us (root under us p)
    root_crown [] p v i h = absurd i
    root_crown (u ∷ us) p v (inr i) h = root_crown us (cond (under p u.place) u.place p) v i h
    root_crown (u ∷ us) p v (inl e) h =
        let q : P = cond (under p u.place) u.place p in
        let r : P = root under us q in
        let up : under p u.place ≡ true = A.far p q u.place (step_under under A p u.place _ refl) (A.far q r u.place (root_under us q) (ap (λ y. under r y.place) (sym e) ∙ h)) in
        let is : q ≡ u.place = cond-true (under p u.place) u.place p up in
        ap (λ y. under y.place r) e ∙ ap (λ y. under y r) (sym is) ∙ root_under us q

    root_at_by : (us : List (Used P S)) (p : P) → (root under us p ≡ p) ⊎ At us (root under us p)
    root_at_by [] p = inl refl
    root_at_by (u ∷ us) p = go (under p u.place) (root_at_by us (cond (under p u.place) u.place p))
      where
        go : (b : Bool) → (root under us (cond b u.place p) ≡ cond b u.place p) ⊎ At us (root under us (cond b u.place p)) → (root under us (cond b u.place p) ≡ p) ⊎ At (u ∷ us) (root under us (cond b u.place p))
        go b (inr h) = inr (at_more u us _ h)
        go true (inl e) = inr (u, inl refl, sym e)
        go false (inl e) = inl e

    pub root_at : (us : List (Used P S)) (p : P) → At us p → At us (root under us p)
    root_at us p h = ⊎_elim (λ e. subst (At us) (sym e) h) (λ g. g) (root_at_by us p)

    -- of the used places over a use, only its root has none above it
    pub root_one : (us : List (Used P S)) (p q : P) → At us p → At us q → Crown us q → under p q ≡ true → root under us p ≡ q
    root_one us p q at_p at_q crown h =
        let r = root under us p in
        let at_r = root_at us p at_p in
        let down : under r q ≡ true → under q r ≡ true = λ k. ap (λ y. under y r) (sym at_q.2) ∙ root_crown us p at_q.0 at_q.1 (ap (under r) at_q.2 ∙ k) in
        let up : under q r ≡ true → under r q ≡ true = λ k. ap (λ y. under y q) (sym at_r.2) ∙ crown at_r.0 at_r.1 (ap (under q) at_r.2 ∙ k) in
        ⊎_elim (λ k. A.one r q k (down k)) (λ k. A.one r q (up k) k) (A.line p r q (root_under us p) h)

    module _ (all : List (Used P S)) where
      abbrev rt : Used P S → P
      rt u = root under all u.place

      here_root : (us seen : List (Used P S)) (x : Used P S) (p : P) → rt x ≡ p → some_under under seen p ≡ false → In p (roots under all seen (x ∷ us))
      here_root us seen x p e f =
          let is : opens under all seen x.place ≡ Some (rt x) = cond-false (some_under under seen (rt x)) None (Some (rt x)) (ap (some_under under seen) e ∙ f) in
          subst (λ o. In p (cons_option o (roots under all (seen ++ x ∷ []) us))) (sym is) (inl (sym e))

      -- each use's root is among them
      pub roots_in : (us seen : List (Used P S)) → Within us all → (u : Used P S) → In u us → some_under under seen (rt u) ≡ false → In (rt u) (roots under all seen us)
      roots_in [] seen sub u i f = absurd i
      roots_in (x ∷ us) seen sub u (inl e) f = here_root us seen x (rt u) (ap rt (sym e)) f
      roots_in (x ∷ us) seen sub u (inr i) f =
          let at_u : At all u.place = (u, sub u (inr i), refl) in
          let at_x : At all x.place = (x, sub x (inl refl), refl) in
          ⊎_elim
          (λ h. here_root us seen x (rt u) (root_one all x.place (rt u) at_x (root_at all u.place at_u) (root_crown all u.place) h) f)
          (λ h. in_then (opens under all seen) (opens under all seen x.place) (roots under all (seen ++ x ∷ []) us) (rt u) (roots_in us (seen ++ x ∷ []) (λ v j. sub v (inr j)) u i (unseen_push seen x (rt u) f h)))
          (cases_Bool (under x.place (rt u)))

      -- and each of them is the root of a use, which no seen use lies under
      abbrev Rooted : List (Used P S) → List (Used P S) → P → Type 0
      Rooted seen us q = (u : Used P S) × In u us × (q ≡ rt u) × (some_under under seen q ≡ false)

      pub roots_are : (us seen : List (Used P S)) (q : P) → In q (roots under all seen us) → Rooted seen us q
      roots_are [] seen q i = absurd i
      roots_are (x ∷ us) seen q i = go (some_under under seen (rt x)) refl i (λ j. let h = roots_are us (seen ++ x ∷ []) q j in (h.0, inr h.1, h.2, (push_unseen seen x q h.3).0))
        where
          go : (b : Bool) → some_under under seen (rt x) ≡ b → In q (cons_option (cond b None (Some (rt x))) (roots under all (seen ++ x ∷ []) us)) → (In q (roots under all (seen ++ x ∷ []) us) → Rooted seen (x ∷ us) q) → Rooted seen (x ∷ us) q
          go true e j later = later j
          go false e (inl is) later = (x, inl refl, is, ap (some_under under seen) is ∙ e)
          go false e (inr j) later = later j

      -- places of which none is under another
      abbrev pub Spread : List P → Type 0
      Spread [] = Unit {0}
      Spread (p ∷ ps) = ((q : P) → In q ps → (under p q ≡ false) × (under q p ≡ false)) × Spread ps

      -- a root that no seen use is under is apart from the root of a use that was seen
      apart : (x u : Used P S) → In x all → In u all → under x.place (rt u) ≡ false → (under (rt x) (rt u) ≡ false) × (under (rt u) (rt x) ≡ false)
      apart x u i j ne =
          let far : under (rt x) (rt u) ≡ false = ⊎_elim (λ h. absurd (both_ways _ ne (A.far _ _ _ (root_under all x.place) h))) (λ h. h) (cases_Bool (under (rt x) (rt u))) in
          let at_x = root_at all x.place (x, i, refl) in
          let back : under (rt u) (rt x) ≡ true → under (rt x) (rt u) ≡ true = λ h. ap (λ y. under y (rt u)) (sym at_x.2) ∙ root_crown all u.place at_x.0 at_x.1 (ap (under (rt u)) at_x.2 ∙ h) in
          (far, ⊎_elim (λ h. absurd (both_ways _ far (back h))) (λ h. h) (cases_Bool (under (rt u) (rt x))))

      pub roots_spread : (us seen : List (Used P S)) → Within us all → Spread (roots under all seen us)
      roots_spread [] seen sub = tt
      roots_spread (x ∷ us) seen sub = go (some_under under seen (rt x)) (roots_spread us (seen ++ x ∷ []) (λ v j. sub v (inr j)))
        where
          rest : List P
          rest = roots under all (seen ++ x ∷ []) us

          split : (q : P) → In q (roots under all (seen ++ x ∷ []) us) → (under (rt x) q ≡ false) × (under q (rt x) ≡ false)
          split q i =
              let h = roots_are us (seen ++ x ∷ []) q i in
              let ne = (push_unseen seen x q h.3).1 in
              let two = apart x h.0 (sub x (inl refl)) (sub h.0 (inr h.1)) (ap (under x.place) (sym h.2) ∙ ne) in
              (ap (under (rt x)) h.2 ∙ two.0, ap (λ y. under y (rt x)) h.2 ∙ two.1)

          go : (b : Bool) → Spread (roots under all (seen ++ x ∷ []) us) → Spread (cons_option (cond b None (Some (rt x))) (roots under all (seen ++ x ∷ []) us))
          go true ih = ih
          go false ih = (split, ih)
