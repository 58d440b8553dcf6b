-- One more capture in the caller's table.
use Rattle.std.proofs.Common.{◌≡◌, ℕ, ◌+◌, ◌-◌, ◌<◌, ◌≤◌, Bool, List, [], ◌∷◌, ◌++◌, map, length, take, drop, set, Some, None, Option, sym, ap, ◌∙◌, subst, append_assoc, arith}
use Rattle.std.specs.Option.{option_map}
use Rattle.std.proofs.lemmas.List.{length-map, length-take, length-drop, length-append, length-set, map_push, take_more_set, take-set-le, drop-drop, drop-set-lt, drop-set-add}
use Rattle.std.specs.List.{cons_option}
use Rattle.place.specs.Places.{Spot, lies_under}
use Rattle.place.specs.declared.uses.Use.{Use}
use Rattle.place.specs.declared.uses.Capture.{Capture}
use Rattle.cover.specs.Cover.{Captured, captures}
use Rattle.cover.specs.Views.{used, captured, opened_of}
use Rattle.cover.proofs.Opened.{captures_from, captures_next}

module _ {S : Type 0} (cut : Spot → Spot → S → S) (low : S) (leq : S → S → Bool) (us : List (Use S)) (filled : ℕ) (old : List (Capture S)) where
  abbrev all : List (Captured Spot S)
  all = captures lies_under cut low leq (map used us)

  abbrev from : ℕ → List (Captured Spot S)
  from i = captures_from lies_under cut low leq (map used us) i

  -- the table after the first i uses, which opened n captures
  pub record Laid (i n : ℕ) (new : List (Capture S)) : Type 0 where
    pub long : length new ≡ length old
    pub fits : n ≤ length new - filled
    pub rows : map captured (take n (drop filled new)) ++ from i ≡ all
    pub front : take filled new ≡ take filled old
    pub behind : drop (filled + n) new ≡ drop (filled + n) old

  written_length : (i n : ℕ) (new : List (Capture S)) → Laid i n new → length all ≡ n + length (from i)
  written_length i n new l =
      let w : length (map captured (take n (drop filled new))) ≡ n = length-map (take n (drop filled new)) captured ∙ (simp (length-take, length-drop) (let f = l.fits in omega arith)) in
      omega (arith, ap length (sym l.rows), length-append (map captured (take n (drop filled new))) (from i), w)

  module _ (i n : ℕ) (new : List (Capture S)) (l : Laid i n new) (o : Option (Capture S)) (h : i < length us) (is : option_map captured o ≡ opened_of cut low leq us i) where
    left : from i ≡ cons_option (option_map captured o) (from (i + 1))
    left = captures_next lies_under cut low leq (map used us) i (simp length-map h) ∙ ap (λ q. cons_option q (from (i + 1))) (sym is)

    laid_skip : o ≡ None → Laid (i + 1) n new
    laid_skip none =
        let e : from i ≡ from (i + 1) = left ∙ ap (λ q. cons_option (option_map captured q) (from (i + 1))) none in
        record {
          long = l.long;
          fits = l.fits;
          rows = ap (λ cs. map captured (take n (drop filled new)) ++ cs) (sym e) ∙ l.rows;
          front = l.front;
          behind = l.behind;
        }

    pub laid_skipped : (k : ℕ) (out : List (Capture S)) → k ≡ n → out ≡ new → o ≡ None → Laid (i + 1) k out
    laid_skipped k out is_k is_out none = subst (λ m. Laid (i + 1) m out) (sym is_k) (subst (Laid (i + 1) n) (sym is_out) (laid_skip none))

    module _ (c : Capture S) (some : o ≡ Some c) where
      opens_one : from i ≡ captured c ∷ from (i + 1)
      opens_one = left ∙ ap (λ q. cons_option (option_map captured q) (from (i + 1))) some

      pub laid_room : length all ≤ length old - filled → filled + n < length new
      laid_room room = omega (arith, room, l.long, written_length i n new l, ap length opens_one)

      laid_push : filled + n < length new → Laid (i + 1) (n + 1) (set new (filled + n) c)
      laid_push room =
          let inside : n < length (drop filled new) = simp length-drop (omega arith) in
          let taken : take (n + 1) (drop filled (set new (filled + n) c)) ≡ take n (drop filled new) ++ c ∷ [] = ap (take (n + 1)) (drop-set-add filled new n c) ∙ take_more_set (drop filled new) n c inside in
          let shown : map captured (take (n + 1) (drop filled (set new (filled + n) c))) ≡ map captured (take n (drop filled new)) ++ captured c ∷ [] = ap (map captured) taken ∙ map_push captured (take n (drop filled new)) c in
          let next : filled + (n + 1) ≡ filled + n + 1 = omega arith in
          record {
            long = length-set new (filled + n) c ∙ l.long;
            fits = simp length-set (omega arith);
            rows = ap (λ w. w ++ from (i + 1)) shown ∙ append_assoc (map captured (take n (drop filled new))) (captured c ∷ []) (from (i + 1)) ∙ ap (λ cs. map captured (take n (drop filled new)) ++ cs) (sym opens_one) ∙ l.rows;
            front = take-set-le filled new (filled + n) c (omega arith) ∙ l.front;
            behind = drop-set-lt (filled + (n + 1)) new (filled + n) c (omega arith) ∙ ap (λ k. drop k new) next ∙ sym (drop-drop 1 (filled + n) new) ∙ ap (drop 1) l.behind ∙ drop-drop 1 (filled + n) old ∙ ap (λ k. drop k old) (sym next);
          }

      pub laid_pushed : length all ≤ length old - filled → (k : ℕ) (out : List (Capture S)) → k ≡ n + 1 → out ≡ set new (filled + n) c → Laid (i + 1) k out
      laid_pushed room k out is_k is_out = subst (λ m. Laid (i + 1) m out) (sym is_k) (subst (Laid (i + 1) (n + 1)) (sym is_out) (laid_push (laid_room room)))
