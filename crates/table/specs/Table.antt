-- The table world: what the rows of a table, which are numbered from 1, say of types.
use Rattle.std.specs.Prelude.{ℕ, ◌-◌, ◌/◌, ◌%◌, Bool, true, cond, ◌&&◌, List, Some, None, Option, ◌==◌, nat_lt, slice_index, refl}
use Rattle.std.specs.Option.{option_map}
use Rattle.reader.specs.declared.types.TypeRecord.{TypeRecord}
use Rattle.reader.specs.declared.types.TypeShape.{TypeShape}
use Rattle.reader.specs.declared.types.TypeShape.TheVariants as row
use Rattle.reader.specs.Numbers.{numbered}
use Rattle.reader.specs.Types.{TypeRow, view_type}
use Rattle.world.specs.Meaning.{Meaning, Sound}
use Rattle.world.specs.declared.shapes.Shape.{Shape}
use Rattle.world.specs.declared.shapes.Shape.TheVariants.{Error, Other, Shared, Mutable, Raw, Boxed, Union, Tuple, Struct, Closure}

-- the shape of a row whose first number is n: a closure's is the number of the closure
abbrev pub shape_with : TypeShape → ℕ → Shape
shape_with row.Other n = Other
shape_with row.Shared n = Shared
shape_with row.Mutable n = Mutable
shape_with row.Raw n = Raw
shape_with row.Boxed n = Boxed
shape_with row.Union n = Union
shape_with row.Tuple n = Tuple
shape_with row.Struct n = Struct
shape_with row.Closure n = Closure n

-- the number at a place, and 0 where there is none
abbrev pub number : TypeRow → ℕ → ℕ
number r i = slice_index r.numbers i

abbrev pub row_shape : Option TypeRow → Shape
row_shape None = Error
row_shape (Some r) = shape_with r.shape (number r 0)

abbrev pub row_copy : Option TypeRow → Bool
row_copy None = true
row_copy (Some r) = r.copies

-- Step 0 dereferences a pointer; 2i + 1 takes field i of a tuple, and 2i + 2 field i of a struct or union.
abbrev pub deref : TypeRow → ℕ → ℕ
deref r s = cond (s == 0) (number r 0) 0

abbrev pub tuple_field : TypeRow → ℕ → ℕ
tuple_field r s = cond (s % 2 == 1) (number r (s / 2)) 0

abbrev pub struct_field : TypeRow → ℕ → ℕ
struct_field r s = cond (nat_lt 0 s && s % 2 == 0) (number r (s / 2 - 1)) 0

-- where a step leads; a step that a type lacks leads to 0
abbrev pub step_by : TypeShape → TypeRow → ℕ → ℕ
step_by row.Other r s = 0
step_by row.Shared r s = deref r s
step_by row.Mutable r s = deref r s
step_by row.Raw r s = deref r s
step_by row.Boxed r s = deref r s
step_by row.Union r s = struct_field r s
step_by row.Tuple r s = tuple_field r s
step_by row.Struct r s = struct_field r s
step_by row.Closure r s = 0

abbrev pub row_step : Option TypeRow → ℕ → ℕ
row_step None s = 0
row_step (Some r) s = step_by r.shape r s

abbrev pub table_world : List TypeRow → Meaning
table_world rows = record {
  error = 0;
  shape = λ t. row_shape (numbered rows t);
  copies = λ t. row_copy (numbered rows t);
  step = λ t s. row_step (numbered rows t) s;
}

pub table_sound : (rows : List TypeRow) → Sound (table_world rows)
table_sound rows = record { fails = refl; stays = λ s. refl }

-- what a value of the code says
abbrev pub view_row : Option TypeRecord → Option TypeRow
view_row o = option_map view_type o
