-- The classes of nodes: the byte of each, and the operands that a node of it has.
use Rattle.std.specs.Prelude.{ℕ, ◌-◌, Bool, true, false, cond, ◌&&◌, List, [], ◌∷◌, Some, None, Option, nat_le, nat_lt, slice_index_or}
use Rattle.reader.specs.declared.class.Class.{Class}
use Rattle.reader.specs.declared.class.Class.TheVariants.{Leaf, Name, Run, LetStatement, Field, Deref, Ref, OpAssign, Assign, Match, Let, Index, Closure, Wild, Bind, Tuple, Or, Variant, Reading, RefPat, BoxPat, LocalPath, Expression}
use Rattle.reader.specs.declared.class.Sort.{Sort}
use Rattle.reader.specs.declared.class.Sort.TheVariants.{Expr, MaybeExpr, Pat, MaybePat, Binding, Step, Flag}

-- expressions, from class byte 0
abbrev pub expressions : List Class
expressions = Leaf ∷ Name ∷ Run ∷ LetStatement ∷ Field ∷ Deref ∷ Ref ∷ OpAssign ∷ Assign ∷ Match ∷ Let ∷ Index ∷ Closure ∷ []

-- patterns, from class byte 32
abbrev pub patterns : List Class
patterns = Wild ∷ Bind ∷ Tuple ∷ Or ∷ Variant ∷ Reading ∷ RefPat ∷ BoxPat ∷ LocalPath ∷ Expression ∷ []

abbrev pub class_of : ℕ → Option Class
class_of b =
    cond (nat_lt b 13) (Some (slice_index_or expressions b Leaf)) (cond (nat_le 32 b && nat_lt b 42) (Some (slice_index_or patterns (b - 32) Leaf)) None)

abbrev pub is_expression : Class → Bool
is_expression Leaf = true
is_expression Name = true
is_expression Run = true
is_expression LetStatement = true
is_expression Field = true
is_expression Deref = true
is_expression Ref = true
is_expression OpAssign = true
is_expression Assign = true
is_expression Match = true
is_expression Let = true
is_expression Index = true
is_expression Closure = true
is_expression Wild = false
is_expression Bind = false
is_expression Tuple = false
is_expression Or = false
is_expression Variant = false
is_expression Reading = false
is_expression RefPat = false
is_expression BoxPat = false
is_expression LocalPath = false
is_expression Expression = false

abbrev pub is_closure : Class → Bool
is_closure Leaf = false
is_closure Name = false
is_closure Run = false
is_closure LetStatement = false
is_closure Field = false
is_closure Deref = false
is_closure Ref = false
is_closure OpAssign = false
is_closure Assign = false
is_closure Match = false
is_closure Let = false
is_closure Index = false
is_closure Closure = true
is_closure Wild = false
is_closure Bind = false
is_closure Tuple = false
is_closure Or = false
is_closure Variant = false
is_closure Reading = false
is_closure RefPat = false
is_closure BoxPat = false
is_closure LocalPath = false
is_closure Expression = false

-- the operands that every node of the class has: a field has its base and a step, a let statement its pattern, and an
-- initializer and an else branch that may be missing
abbrev pub head : Class → List Sort
head Leaf = []
head Name = Binding ∷ []
head Run = []
head LetStatement = Pat ∷ MaybeExpr ∷ MaybeExpr ∷ []
head Field = Expr ∷ Step ∷ []
head Deref = Expr ∷ Flag 1 ∷ []
head Ref = Expr ∷ Flag 1 ∷ []
head OpAssign = Expr ∷ Expr ∷ []
head Assign = Pat ∷ Expr ∷ []
head Match = Expr ∷ []
head Let = Pat ∷ Expr ∷ []
head Index = Expr ∷ Expr ∷ []
head Closure = Expr ∷ Flag 1 ∷ []
head Wild = []
head Bind = Binding ∷ Flag 2 ∷ MaybePat ∷ []
head Tuple = []
head Or = []
head Variant = Flag 4 ∷ []
head Reading = []
head RefPat = Pat ∷ []
head BoxPat = Pat ∷ []
head LocalPath = Binding ∷ []
head Expression = Expr ∷ []

-- the operands that then come any number of times over: the arms of a match are pattern, guard and body each
abbrev pub again : Class → List Sort
again Leaf = []
again Name = []
again Run = Expr ∷ []
again LetStatement = []
again Field = []
again Deref = []
again Ref = []
again OpAssign = []
again Assign = []
again Match = Pat ∷ MaybeExpr ∷ Expr ∷ []
again Let = []
again Index = []
again Closure = []
again Wild = []
again Bind = []
again Tuple = Step ∷ Pat ∷ []
again Or = Pat ∷ []
again Variant = Step ∷ Pat ∷ []
again Reading = Pat ∷ []
again RefPat = []
again BoxPat = []
again LocalPath = []
again Expression = []
