-- What a payload may hold, by the tag of its record.
use Rattle.std.specs.Prelude.{ℕ, zero, suc, ◌+◌, ◌-◌, ◌*◌, ◌%◌, Bool, true, false, cond, ◌&&◌, ◌||◌, List, [], ◌∷◌, length, drop, is_some, Some, None, Ok, Err, Option, Result, ◌==◌, nat_le, nat_lt}
use Rattle.reader.specs.declared.class.Class.{Class}
use Rattle.reader.specs.declared.payload.Item.{Item}
use Rattle.reader.specs.declared.payload.Item.TheVariants as item
use Rattle.reader.specs.declared.payload.Wrong.{Wrong}
use Rattle.reader.specs.declared.payload.Wrong.TheVariants.{Unknown, Misfit}
use Rattle.reader.specs.Classes.{class_of, head, again, is_expression, is_closure}
use Rattle.reader.specs.Operands.{operands}
use Rattle.reader.specs.Pieces.{byte_at}

-- how many bytes the numbers of a type have: other (1) none, references, pointers, Box (2 to 5) and closure (9) one number,
-- union, tuple and struct (6 to 8) a number a field
abbrev pub numbers_fit : ℕ → ℕ → Bool
numbers_fit shape bytes =
    cond (shape == 1) (bytes == 0)
    (cond ((nat_le 2 shape && nat_le shape 5) || shape == 9) (bytes == 2)
    (cond (nat_le 6 shape && nat_le shape 8) (bytes % 2 == 0) false))

-- a type: a shape byte, a Copy byte of 0 or 1, and the numbers of its shape
abbrev pub type_fits : List ℕ → Bool
type_fits p = nat_le 2 (length p) && (nat_le (byte_at p 1) 1 && numbers_fit (byte_at p 0) (length p - 2))

-- adjustments: a code of at most 6 and a type of two bytes each
abbrev pub adjustments_fit : ℕ → List ℕ → Bool
adjustments_fit zero bs = true
adjustments_fit (suc k) [] = false
adjustments_fit (suc k) (c ∷ []) = false
adjustments_fit (suc k) (c ∷ h ∷ []) = false
adjustments_fit (suc k) (c ∷ h ∷ l ∷ bs) = nat_le c 6 && adjustments_fit k bs

-- A node begins with its home and its class. An expression goes on with its type and a count byte of adjustments, a
-- pattern with a count byte of implicit dereferences; then come the operands.
abbrev pub operands_from : Class → List ℕ → ℕ
operands_from c p = cond (is_expression c) (5 + 3 * byte_at p 4) 3

abbrev pub operand_bytes : Class → List ℕ → List ℕ
operand_bytes c p = drop (operands_from c p) p

abbrev pub front_fits : Class → List ℕ → Bool
front_fits c p = cond (is_expression c) (nat_le 5 (length p) && adjustments_fit (byte_at p 4) (drop 5 p)) (nat_le 3 (length p))

abbrev pub node_fits : Class → List ℕ → Bool
node_fits c p = front_fits c p && is_some (operands (again c) (head c) (operand_bytes c p))

-- a closure counts as a node and as a closure
abbrev pub as_item : Class → Item
as_item c = cond (is_closure c) item.Closure item.Node

abbrev pub of_class : Option Class → List ℕ → Result Item Wrong
of_class None p = Err Unknown
of_class (Some c) p = cond (node_fits c p) (Ok (as_item c)) (Err Misfit)

-- a node too short for a class misfits
abbrev pub node_item : List ℕ → Result Item Wrong
node_item p = cond (nat_lt (length p) 2) (Err Misfit) (of_class (class_of (byte_at p 1)) p)

abbrev pub fitting : Bool → Item → Result Item Wrong
fitting b i = cond b (Ok i) (Err Misfit)

-- tag 1 is a type, 2 a binding (type, owner and a name), 3 a node
abbrev pub item_of : ℕ → List ℕ → Result Item Wrong
item_of tag p =
    cond (tag == 1) (fitting (type_fits p) item.«Type»)
    (cond (tag == 2) (fitting (nat_le 3 (length p)) item.Binding) (cond (tag == 3) (node_item p) (Err Unknown)))
