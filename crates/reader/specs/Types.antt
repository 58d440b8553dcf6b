-- A type record: what a type is, whether it is Copy, and the numbers of the types or the closure that it names.
use Rattle.std.specs.Prelude.{ℕ, ◌-◌, Bool, List, [], ◌∷◌, drop, ◌==◌, slice_index_or}
use Rattle.reader.specs.declared.types.TypeShape.{TypeShape}
use Rattle.reader.specs.declared.types.TypeShape.TheVariants.{Other, Shared, Mutable, Raw, Boxed, Union, Tuple, Struct, Closure}
use Rattle.reader.specs.declared.types.TypeRecord.{TypeRecord}
use Rattle.reader.specs.Numbers.{numbers}
use Rattle.reader.specs.Pieces.{byte_at}

-- shapes, from shape byte 1
abbrev pub shapes : List TypeShape
shapes = Other ∷ Shared ∷ Mutable ∷ Raw ∷ Boxed ∷ Union ∷ Tuple ∷ Struct ∷ Closure ∷ []

abbrev pub shape_of : ℕ → TypeShape
shape_of b = slice_index_or shapes (b - 1) Other

pub record TypeRow : Type 0 where
  pub shape : TypeShape
  pub copies : Bool
  pub numbers : List ℕ

-- the type of a payload: shape byte, Copy byte, numbers
abbrev pub type_of : List ℕ → TypeRow
type_of p = record { shape = shape_of (byte_at p 0); copies = (byte_at p 1 == 1); numbers = numbers (drop 2 p) }

abbrev pub view_type : TypeRecord → TypeRow
view_type t = record { shape = t.shape; copies = t.copies; numbers = numbers t.numbers.bytes.now }
