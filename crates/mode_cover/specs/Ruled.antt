-- Capture modes keep the rules of the cover, in every world.
use Rattle.std.specs.Prelude.{◌≡◌, ℕ, List, [], ◌∷◌, map, refl}
use Rattle.std.proofs.Common.{ap}
use Rattle.world.specs.Meaning.{Meaning}
use Rattle.scale.specs.Modes.{mode_leq, mode_is_scale}
use Rattle.scale.specs.declared.modes.Mode.{Mode}
use Rattle.scale.specs.declared.modes.Mode.TheVariants.{Imm}
use Rattle.place.specs.Places.{Spot, lies_under}
use Rattle.place.specs.declared.uses.Use.{Use}
use Rattle.narrow.specs.Narrowing.{cut_to}
use Rattle.narrow.specs.Views.{view}
use Rattle.narrow.proofs.Cuts.{cutting_places}
use Rattle.cover.specs.Cover.{Used}
use Rattle.cover.specs.Views.{used}
use Rattle.cover.specs.Covering.{Cuts, Rules, Covers}
use Rattle.place.proofs.Prefixes.{ancestry}
use Rattle.cover.proofs.Covers.{captures_cover}
use Rattle.mode_cover.specs.Modes.{captures_by_mode, from_narrowed}

module _ (m : Meaning) (types : ℕ → ℕ) where
  pub modes_cut : Cuts lies_under (cut_to m types) mode_leq
  modes_cut = let c = cutting_places m types in record { none = c.none; twice = c.twice; keeps = λ p q x y _ h. c.keeps p q x y h }

  pub mode_rules : Rules lies_under (cut_to m types) Imm mode_leq
  mode_rules = record { places = ancestry; scale = mode_is_scale; cuts = modes_cut }

  pub modes_cover : (us : List (Used Spot Mode)) → Covers lies_under (cut_to m types) Imm mode_leq us (captures_by_mode m types us)
  modes_cover = captures_cover lies_under (cut_to m types) Imm mode_leq mode_rules

-- a row of the use table, by way of narrowing's view of it
pub used_narrowed : (u : Use Mode) → used u ≡ from_narrowed (view u)
used_narrowed u = refl

pub uses_narrowed : (us : List (Use Mode)) → map used us ≡ map from_narrowed (map view us)
uses_narrowed [] = refl
uses_narrowed (u ∷ us) = ap (λ l. used u ∷ l) (uses_narrowed us)
