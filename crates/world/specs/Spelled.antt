-- The spelled world: what each number, by its value below 4 and by its remainder by 4 from there on, says of the type.
use Rattle.std.specs.Prelude.{ℕ, ◌/◌, ◌%◌, ◌-◌, Bool, cond, not, ◌&&◌, eqb, ltb, leb, refl}
use Rattle.world.specs.Meaning.{Meaning, Sound}
use Rattle.world.specs.declared.shapes.Shape.{Shape}
use Rattle.world.specs.declared.shapes.Shape.TheVariants.{Error, Other, Shared, Mutable, Raw, Boxed}

-- by the remainder: 0 a shared reference, 1 a mutable reference, 2 a raw pointer, 3 a Box
abbrev pub pointer_shape : ℕ → Shape
pointer_shape r = cond (eqb r 0) Shared (cond (eqb r 1) Mutable (cond (eqb r 2) Raw Boxed))

-- 0, 1 and 2 are other, 3 is the error type
abbrev pub spelled_shape : ℕ → Shape
spelled_shape n = cond (ltb n 3) Other (cond (eqb n 3) Error (pointer_shape (n % 4)))

-- below 4 all but 2 are Copy; from there on even numbers are
abbrev pub spelled_copy : ℕ → Bool
spelled_copy n = cond (ltb n 4) (not (eqb n 2)) (eqb (n % 2) 0)

-- a pointer dereferences to the quotient less 1; all else leads to the error type
abbrev pub spelled_step : ℕ → ℕ → ℕ
spelled_step n s = cond (leb 4 n && eqb s 0) (n / 4 - 1) 3

abbrev pub spelled_world : Meaning
spelled_world = record { error = 3; shape = spelled_shape; copies = spelled_copy; step = spelled_step }

pub spelled_sound : Sound spelled_world
spelled_sound = record { fails = refl; stays = λ s. refl }
