-- The captures of an inner closure, one at a time.
use Rattle.std.proofs.Common.{◌≡◌, ℕ, ◌+◌, ◌<◌, List, ◌++◌, length, get_or, drop, sym, ap, ◌∙◌}
use Rattle.std.proofs.lemmas.List.{at_drop_more}
use Rattle.scene.specs.Inner.{Held, nothing_held}
use Rattle.scene.specs.Scenes.{Setting}
use Rattle.events.specs.Captures.{add_capture, inner_captures}

module _ (s : Setting) (n : ℕ) where
  pub inner_turn : (hs : List Held) (i : ℕ) (h : Held) → i < length hs → h ≡ get_or hs i nothing_held → inner_captures s n (drop i hs) ≡ add_capture s h.place h.mode n ++ inner_captures s n (drop (i + 1) hs)
  inner_turn hs i h l e = at_drop_more (inner_captures s n) hs i nothing_held l ∙ ap (λ (x : Held). add_capture s x.place x.mode n ++ inner_captures s n (drop (i + 1) hs)) (sym e)
