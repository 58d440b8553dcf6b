-- A file is a row of records: a tag byte, a length of two bytes, high byte first, and that many bytes of payload.
use Rattle.std.specs.Prelude.{ℕ, ◌+◌, ◌*◌, cond, List, [], ◌∷◌, length, take, drop, Some, None, Option, nat_le, slice_index}
use Rattle.reader.specs.declared.pieces.Piece.{Piece}

-- a record, and what follows it
pub record Parsed : Type 0 where
  pub tag : ℕ
  pub payload : List ℕ
  pub rest : List ℕ

-- the first record of a file; none where it runs past the end
abbrev pub parse : List ℕ → Option Parsed
parse [] = None
parse (t ∷ []) = None
parse (t ∷ h ∷ []) = None
parse (t ∷ h ∷ l ∷ bs) =
    cond (nat_le (h * 256 + l) (length bs))
    (Some (record { tag = t; payload = take (h * 256 + l) bs; rest = drop (h * 256 + l) bs }))
    None

-- the byte and the number of two bytes, high byte first, at a place; what lies past the end counts as 0
abbrev pub byte_at : List ℕ → ℕ → ℕ
byte_at bs k = slice_index bs k

abbrev pub number_at : List ℕ → ℕ → ℕ
number_at bs k = slice_index bs k * 256 + slice_index bs (k + 1)

abbrev pub payload_or : Option Parsed → List ℕ
payload_or None = []
payload_or (Some p) = p.payload

-- the payload of the record at an offset of a file
abbrev pub payload_at : List ℕ → ℕ → List ℕ
payload_at file offset = payload_or (parse (drop offset file))

-- what a value of the reader says
abbrev pub view_one : Piece → Parsed
view_one p = record { tag = p.tag; payload = p.payload.now; rest = p.rest.now }

abbrev pub view : Option Piece → Option Parsed
view None = None
view (Some p) = Some (view_one p)
