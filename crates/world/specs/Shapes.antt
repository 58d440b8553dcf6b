-- Two tests on shapes: whether a type is a pointer of a sort, and whether a path stops at it.
use Rattle.std.specs.Prelude.{Bool, true, false}
use Rattle.world.specs.declared.shapes.Shape.{Shape}
use Rattle.world.specs.declared.shapes.Shape.TheVariants.{Error, Other, Shared, Mutable, Raw, Boxed, Union, Tuple, Struct, Closure}
use Rattle.world.specs.declared.shapes.Pointer.{Pointer}
use Rattle.world.specs.declared.shapes.Pointer.TheVariants.{ToShared, ToMutable, ToRaw}

-- a shared reference, a mutable reference, a raw pointer
abbrev pub is_pointer : Shape → Pointer → Bool
is_pointer Error p = false
is_pointer Other p = false
is_pointer Shared ToShared = true
is_pointer Shared ToMutable = false
is_pointer Shared ToRaw = false
is_pointer Mutable ToShared = false
is_pointer Mutable ToMutable = true
is_pointer Mutable ToRaw = false
is_pointer Raw ToShared = false
is_pointer Raw ToMutable = false
is_pointer Raw ToRaw = true
is_pointer Boxed p = false
is_pointer Union p = false
is_pointer Tuple p = false
is_pointer Struct p = false
is_pointer (Closure k) p = false

-- the types at which a path stops: raw pointers and unions
abbrev pub is_stop : Shape → Bool
is_stop Error = false
is_stop Other = false
is_stop Shared = false
is_stop Mutable = false
is_stop Raw = true
is_stop Boxed = false
is_stop Union = true
is_stop Tuple = false
is_stop Struct = false
is_stop (Closure k) = false
