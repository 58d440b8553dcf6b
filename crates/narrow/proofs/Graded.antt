-- The uses of a table, as the rules see them, are graded alike.
use Rattle.std.proofs.Common.{◌≡◌, List, map, filter_map, ap, ◌∙◌, subst}
use Rattle.scale.specs.declared.sited.Sited.{Sited}
use Rattle.scale.specs.declared.modes.Mode.{Mode}
use Rattle.scale.specs.declared.modes.Kind.{Kind}
use Rattle.scale.specs.declared.modes.Kind.TheVariants.{Fn}
use Rattle.scale.specs.Modes.{kind_leq}
use Rattle.scale.specs.Highest.{highest, Tops}
use Rattle.scale.proofs.Highests.{entries_map}
use Rattle.place.specs.declared.uses.Use.{Use}
use Rattle.narrow.specs.Kinds.{kind_entry, closure_kind}
use Rattle.narrow.specs.Views.{view}

module _ (rows : List (Use Mode)) (r : Sited Kind) where
  pub kind_is : r ≡ highest Fn kind_leq (filter_map (λ u. kind_entry (view u)) rows) → r ≡ closure_kind (map view rows)
  kind_is e = e ∙ ap (highest Fn kind_leq) (entries_map kind_entry view rows)

  pub kind_tops : Tops Fn kind_leq (filter_map (λ u. kind_entry (view u)) rows) r → Tops Fn kind_leq (filter_map kind_entry (map view rows)) r
  kind_tops h = let P : List (Sited Kind) → Type 0 = λ es. Tops Fn kind_leq es r in subst P (entries_map kind_entry view rows) h
