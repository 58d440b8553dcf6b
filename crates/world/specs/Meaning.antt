-- What a type world means: the number of its error type, and the shape, the Copy and the steps of each type.
use Rattle.std.specs.Prelude.{ℕ, Bool, ◌≡◌}
use Rattle.world.specs.declared.shapes.Shape.{Shape}
use Rattle.world.specs.declared.shapes.Shape.TheVariants.{Error}

-- `step t s` is the type to which the step s leads from the type t
pub record Meaning : Type 0 where
  pub error : ℕ
  pub shape : ℕ → Shape
  pub copies : ℕ → Bool
  pub step : ℕ → ℕ → ℕ

-- what each world shows: its error type has the shape error, and steps only to itself
pub record Sound (m : Meaning) : Type 0 where
  pub fails : m.shape m.error ≡ Error
  pub stays : (s : ℕ) → m.step m.error s ≡ m.error
