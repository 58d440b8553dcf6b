-- Whether all captures let a closure be Copy, asked of them one by one.
use Rattle.std.proofs.Common.{◌≡◌, ℕ, ◌+◌, ◌<◌, ◌≤◌, Bool, true, false, ◌&&◌, List, map, length, Some, None, Option, sym, refl, ap, ◌∙◌}
use Rattle.std.specs.Option.{option_map}
use Rattle.std.proofs.lemmas.List.{length-map}
use Rattle.std.specs.List.{cons_option}
use Rattle.scale.specs.Modes.{mode_leq}
use Rattle.scale.specs.declared.modes.Mode.{Mode}
use Rattle.scale.specs.declared.modes.Mode.TheVariants.{Imm}
use Rattle.place.specs.Places.{Spot, lies_under}
use Rattle.place.specs.declared.uses.Use.{Use}
use Rattle.place.specs.declared.uses.Capture.{Capture}
use Rattle.narrow.specs.Narrowing.{cut_to}
use Rattle.narrow.specs.Views.{view}
use Rattle.cover.specs.Cover.{Captured}
use Rattle.cover.specs.Views.{used, captured}
use Rattle.cover.proofs.Opened.{captures_from, captures_next, captures_end}
use Rattle.mode_cover.specs.Modes.{from_narrowed, opened_by_mode}
use Rattle.mode_cover.specs.Ruled.{uses_narrowed}
use Rattle.events.specs.Matches.{binding_type}
use Rattle.scene.specs.Scenes.{Setting}
use Rattle.analysis.specs.Findings.{and_both, copies_at, captures_in, opened_in, opener_copies, all_copy}

true_first : (o : Option Bool) → and_both (Some true) o ≡ o
true_first None = refl
true_first (Some b) = refl

both_first : (a b : Bool) (o : Option Bool) → and_both (Some a) (and_both (Some b) o) ≡ and_both (Some (a && b)) o
both_first a b None = refl
both_first true b (Some c) = refl
both_first false b (Some c) = refl

module _ (s : Setting) where
  opener_first : (o : Option (Captured Spot Mode)) (cs : List (Captured Spot Mode)) → all_copy s (cons_option o cs) ≡ and_both (opener_copies s o) (all_copy s cs)
  opener_first None cs = sym (true_first (all_copy s cs))
  opener_first (Some c) cs = refl

  module _ (us : List (Use Mode)) where
    -- the capture that a use opens, as the code has it
    module _ (i : ℕ) (o : Option (Capture Mode)) (is : option_map captured o ≡ opened_by_mode s.means (binding_type s) (map used us) i) where
      opened_is : option_map captured o ≡ opened_in s (map view us) i
      opened_is = is ∙ ap (λ l. opened_by_mode s.means (binding_type s) l i) (uses_narrowed us)

      pub opener_some : (c : Capture Mode) (r : Option Bool) → o ≡ Some c → r ≡ copies_at s (captured c).place c.mode.value → r ≡ opener_copies s (opened_in s (map view us) i)
      opener_some c r some e = e ∙ ap (λ q. opener_copies s (option_map captured q)) (sym some) ∙ ap (opener_copies s) opened_is

      pub opener_none : o ≡ None → Some true ≡ opener_copies s (opened_in s (map view us) i)
      opener_none none = ap (λ q. opener_copies s (option_map captured q)) (sym none) ∙ ap (opener_copies s) opened_is

    -- what the uses from the i-th on have left to ask
    abbrev pub to_ask : ℕ → Option Bool
    to_ask i = all_copy s (captures_from lies_under (cut_to s.means (binding_type s)) Imm mode_leq (map from_narrowed (map view us)) i)

    to_ask_next : (i : ℕ) → i < length us → to_ask i ≡ and_both (opener_copies s (opened_in s (map view us) i)) (to_ask (i + 1))
    to_ask_next i h =
        ap (all_copy s) (captures_next lies_under (cut_to s.means (binding_type s)) Imm mode_leq (map from_narrowed (map view us)) i (simp length-map h))
        ∙ opener_first (opened_in s (map view us) i) (captures_from lies_under (cut_to s.means (binding_type s)) Imm mode_leq (map from_narrowed (map view us)) (i + 1))

    module _ (i : ℕ) (a : Bool) (h : i < length us) where
      pub ask_none : None ≡ opener_copies s (opened_in s (map view us) i) → and_both (Some a) (to_ask i) ≡ None
      ask_none e = ap (and_both (Some a)) (to_ask_next i h ∙ ap (λ o. and_both o (to_ask (i + 1))) (sym e))

      pub ask_one : (b : Bool) → Some b ≡ opener_copies s (opened_in s (map view us) i) → and_both (Some (a && b)) (to_ask (i + 1)) ≡ and_both (Some a) (to_ask i)
      ask_one b e = sym (ap (and_both (Some a)) (to_ask_next i h ∙ ap (λ o. and_both o (to_ask (i + 1))) (sym e)) ∙ both_first a b (to_ask (i + 1)))

    pub ask_end : (i : ℕ) (a : Bool) → length us ≤ i → and_both (Some a) (to_ask i) ≡ Some a
    ask_end i a h = ap (λ cs. and_both (Some a) (all_copy s cs)) (captures_end lies_under (cut_to s.means (binding_type s)) Imm mode_leq (map from_narrowed (map view us)) i (simp length-map h)) ∙ true_last a
      where
        true_last : (x : Bool) → Some (x && true) ≡ Some x
        true_last true = refl
        true_last false = refl

    pub ask_all : and_both (Some true) (to_ask 0) ≡ all_copy s (captures_in s (map view us))
    ask_all = true_first (to_ask 0)
