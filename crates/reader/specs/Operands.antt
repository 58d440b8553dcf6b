-- The operands of a node, read from its bytes by the sorts of its class.
use Rattle.std.specs.Prelude.{ℕ, ◌+◌, ◌*◌, Bool, cond, List, [], ◌∷◌, Some, None, Option, nat_le}
use Rattle.std.specs.List.{list_any}
use Rattle.reader.specs.declared.class.Sort.{Sort}
use Rattle.reader.specs.declared.class.Sort.TheVariants.{Expr, MaybeExpr, Pat, MaybePat, Binding, Step, Flag}
use Rattle.reader.specs.declared.operands.Operand.{Operand}
use Rattle.reader.specs.declared.operands.Operands.{Operands}

-- the highest value of a flag; none for an operand of two bytes
abbrev pub flag_most : Sort → Option ℕ
flag_most Expr = None
flag_most MaybeExpr = None
flag_most Pat = None
flag_most MaybePat = None
flag_most Binding = None
flag_most Step = None
flag_most (Flag m) = Some m

-- where the sorts are used up, those that repeat begin over
abbrev pub turn : List Sort → List Sort → List Sort
turn again [] = again
turn again (s ∷ ss) = s ∷ ss

abbrev pub of_sort : Sort → ℕ → Operand
of_sort s n = record { sort = s; number = n }

abbrev pub before : {X : Type 0} → X → Option (List X) → Option (List X)
before x None = None
before x (Some xs) = Some (x ∷ xs)

abbrev pub or_none : {X : Type 0} → Option (List X) → List X
or_none None = []
or_none (Some xs) = xs

-- whether one of a list meets a test
abbrev pub any : {X : Type 0} → (X → Bool) → List X → Bool
any = list_any

-- an operand of this width at the bytes b and c, before those that follow it
abbrev pub chosen : Option ℕ → Sort → ℕ → ℕ → (flagged numbered : Option (List Operand)) → Option (List Operand)
chosen None s b c flagged numbered = before (of_sort s (b * 256 + c)) numbered
chosen (Some m) s b c flagged numbered = cond (nat_le b m) (before (of_sort s b) flagged) None

-- the same at the last byte, which is a flag
abbrev pub chosen_last : Option ℕ → Sort → ℕ → (flagged : Option (List Operand)) → Option (List Operand)
chosen_last None s b flagged = None
chosen_last (Some m) s b flagged = cond (nat_le b m) (before (of_sort s b) flagged) None

-- All operands: a flag is one byte within its bound, any other a number of two bytes, high byte first. The bytes end
-- where the sorts, or one round of the repeated ones, end; else there are none.
abbrev pub operands : (again sorts : List Sort) → List ℕ → Option (List Operand)
operands again [] [] = Some []
operands again (s ∷ ss) [] = None
operands again ss (b ∷ []) = elim (turn again ss) [ [] ↦ None | s ∷ rest ↦ chosen_last (flag_most s) s b (operands again rest []) ]
operands again ss (b ∷ c ∷ cs) =
    elim (turn again ss) [ [] ↦ None | s ∷ rest ↦ chosen (flag_most s) s b c (operands again rest (c ∷ cs)) (operands again rest cs) ]

-- what is left to read: the bytes, the sorts that come next, and those that then come over and over
pub record Left : Type 0 where
  pub bytes : List ℕ
  pub sorts : List Sort
  pub again : List Sort

-- an operand, and what is left behind it
pub record Next : Type 0 where
  pub operand : Operand
  pub left : Left

abbrev pub behind : List Sort → List Sort → Operand → List ℕ → Option Next
behind again rest o bs = Some (record { operand = o; left = record { bytes = bs; sorts = rest; again = again } })

abbrev pub of_width : Option ℕ → (again : List Sort) → Sort → List Sort → ℕ → List ℕ → Option Next
of_width None again s rest b [] = None
of_width None again s rest b (c ∷ cs) = behind again rest (of_sort s (b * 256 + c)) cs
of_width (Some m) again s rest b bs = cond (nat_le b m) (behind again rest (of_sort s b) bs) None

abbrev pub first : (again : List Sort) → List Sort → List ℕ → Option Next
first again [] bs = None
first again (s ∷ rest) [] = None
first again (s ∷ rest) (b ∷ bs) = of_width (flag_most s) again s rest b bs

-- the next operand; none at the end, or where the bytes do not fit the sorts
abbrev pub next : Left → Option Next
next l = first l.again (turn l.again l.sorts) l.bytes

-- all that is left
abbrev pub all : Left → Option (List Operand)
all l = operands l.again l.sorts l.bytes

abbrev pub view_left : Operands → Left
view_left o = record { bytes = o.bytes.now; sorts = o.sorts.now; again = o.again.now }

-- what a reader read, and what it then has left
abbrev pub read : Option Operand → Left → Option Next
read None l = None
read (Some o) l = Some (record { operand = o; left = l })

-- an operand of this width at the bytes b and c, and those that follow it
abbrev pub given : Option ℕ → Sort → ℕ → ℕ → (flagged numbered : List Operand) → List Operand
given None s b c flagged numbered = of_sort s (b * 256 + c) ∷ numbered
given (Some m) s b c flagged numbered = cond (nat_le b m) (of_sort s b ∷ flagged) []

abbrev pub given_last : Option ℕ → Sort → ℕ → (flagged : List Operand) → List Operand
given_last None s b flagged = []
given_last (Some m) s b flagged = cond (nat_le b m) (of_sort s b ∷ flagged) []

-- the operands up to where the bytes end or do not fit the sorts
abbrev pub spelled_by : (again sorts : List Sort) → List ℕ → List Operand
spelled_by again ss [] = []
spelled_by again ss (b ∷ []) = elim (turn again ss) [ [] ↦ [] | s ∷ rest ↦ given_last (flag_most s) s b (spelled_by again rest []) ]
spelled_by again ss (b ∷ c ∷ cs) =
    elim (turn again ss) [ [] ↦ [] | s ∷ rest ↦ given (flag_most s) s b c (spelled_by again rest (c ∷ cs)) (spelled_by again rest cs) ]

abbrev pub spelled : Left → List Operand
spelled l = spelled_by l.again l.sorts l.bytes
