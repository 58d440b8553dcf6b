-- The laws of narrowed uses.
use Rattle.std.proofs.Common.{◌≡◌, ℕ, Bool, true, false, cond, not, ◌&&◌, ◌||◌, refl, ap, ◌∙◌, arith}
use Rattle.std.proofs.lemmas.Bool.{both_ways, or_parts}
use Rattle.std.proofs.lemmas.Bool.Decides.{nat_tests}
use Rattle.world.specs.Meaning.{Meaning}
use Rattle.world.specs.declared.shapes.Pointer.TheVariants.{ToRaw}
use Rattle.scale.specs.Modes.{mode_leq}
use Rattle.scale.specs.declared.modes.Mode.{Mode}
use Rattle.scale.specs.declared.modes.Mode.TheVariants.{Imm, Unique, Mut, Move}
use Rattle.place.specs.Places.{begins}
use Rattle.place.proofs.Prefixes.{begins_self, begins_far, begins_take}
use Rattle.narrow.specs.Walks.{meets, unsafe_at, until_deref, until_shared}
use Rattle.narrow.specs.Narrowing.{Used, cuts_through, cut_mode, copy_mode, is_move, moved_out, copy_read, stop_at_unsafe, reached, narrowed}
use Rattle.narrow.specs.Laws.{Plain, Longest, Narrowing}
use Rattle.narrow.proofs.Cuts.{cut_mode_lowers}
use Rattle.narrow.proofs.Longests.{plain_longest, settled_longest}

move_is : (x : Mode) → is_move x ≡ true → Move ≡ x
move_is Imm e = absurd (both_ways false refl e)
move_is Unique e = absurd (both_ways false refl e)
move_is Mut e = absurd (both_ways false refl e)
move_is Move e = refl

-- The fourth rule, by whether it cuts.
module _ (v : Used) where
  binding_by : (b : Bool) → (cond b (moved_out v) v).binding ≡ v.binding
  binding_by true = refl
  binding_by false = refl

  site_by : (b : Bool) → (cond b (moved_out v) v).site ≡ v.site
  site_by true = refl
  site_by false = refl

  prefix_by : (b : Bool) → begins (cond b (moved_out v) v).path v.path ≡ true
  prefix_by true = begins_take (until_deref v.path) v.path
  prefix_by false = begins_self v.path

  plain_by : (by_move b : Bool) → (by_move || is_move v.mode) ≡ b → (cond b (moved_out v) v).mode ≡ Move → Longest Plain v.path (cond b (moved_out v) v).path
  plain_by by_move true is e = plain_longest v.path
  plain_by by_move false is e = absurd (both_ways (is_move v.mode) (or_parts by_move (is_move v.mode) is).1 (ap is_move e))

  mode_by : (b : Bool) → is_move v.mode ≡ b → (cond b (moved_out v) v).mode ≡ v.mode
  mode_by true e = move_is v.mode e
  mode_by false e = refl

mode_far : (x y z : Mode) → mode_leq x y ≡ true → mode_leq y z ≡ true → mode_leq x z ≡ true
mode_far x y z h k = grind (arith, nat_tests)

copy_lowers : (c : Bool) (x : Mode) → mode_leq (copy_mode c x) x ≡ true
copy_lowers c x = grind (arith, nat_tests)

raw_lowers : (b : Bool) (x : Mode) → mode_leq (cond b Imm x) x ≡ true
raw_lowers b x = grind (arith, nat_tests)

cut_moves : (b : Bool) (x : Mode) → is_move (cut_mode b x) ≡ is_move x
cut_moves b Imm = refl
cut_moves b Unique = refl
cut_moves true Mut = refl
cut_moves false Mut = refl
cut_moves b Move = refl

read_moves : (c r : Bool) (x : Mode) → is_move (cond r Imm (copy_mode c x)) ≡ (is_move x && (not c && not r))
read_moves c true Imm = refl
read_moves c false Imm = refl
read_moves c true Unique = refl
read_moves c false Unique = refl
read_moves c true Mut = refl
read_moves c false Mut = refl
read_moves true true Move = refl
read_moves true false Move = refl
read_moves false true Move = refl
read_moves false false Move = refl

module _ (m : Meaning) (t : ℕ) (copies : Bool) (u : Used) where
  abbrev after : Used
  after = reached copies m t u

  -- the mode that the third rule leaves, through the second and the first
  lowered : mode_leq after.mode u.mode ≡ true
  lowered =
      let first = copy_read copies u in
      let read = cond (meets m ToRaw t u.path) Imm first.mode in
      let second = stop_at_unsafe m t first in
      mode_far after.mode second.mode u.mode (cut_mode_lowers (cuts_through m t second.path (until_shared m t second.path)) second.mode) (mode_far second.mode read u.mode (cut_mode_lowers (cuts_through m t u.path (unsafe_at m t u.path)) read) (mode_far read first.mode u.mode (raw_lowers (meets m ToRaw t u.path) first.mode) (copy_lowers copies u.mode)))

  still_moves : is_move after.mode ≡ (is_move u.mode && (not copies && not (meets m ToRaw t u.path)))
  still_moves =
      let second = stop_at_unsafe m t (copy_read copies u) in
      cut_moves (cuts_through m t second.path (until_shared m t second.path)) second.mode ∙ cut_moves (cuts_through m t u.path (unsafe_at m t u.path)) (cond (meets m ToRaw t u.path) Imm (copy_mode copies u.mode)) ∙ read_moves copies (meets m ToRaw t u.path) u.mode

  same_mode : (narrowed false copies m t u).mode ≡ after.mode
  same_mode = mode_by after (is_move after.mode) refl

  pub narrowing : Narrowing m t copies u
  narrowing = record {
    binding = λ by_move. binding_by after (by_move || is_move after.mode);
    site = λ by_move. site_by after (by_move || is_move after.mode);
    prefix = λ by_move. begins_far (narrowed by_move copies m t u).path after.path u.path (prefix_by after (by_move || is_move after.mode)) (settled_longest m t u.path).begins_whole;
    settled = settled_longest m t u.path;
    plain = λ by_move. plain_by after by_move (by_move || is_move after.mode) refl;
    moves = refl;
    lowers = ap (λ x. mode_leq x u.mode) same_mode ∙ lowered;
    moved = ap is_move same_mode ∙ still_moves;
  }
