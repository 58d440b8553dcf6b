-- The operands of a node, one by one.
use Rattle.std.proofs.Common.{◌≡◌, ℕ, ◌<◌, Bool, true, false, cond, leb, List, [], ◌∷◌, length, is_some, IfNone, MatchOption, rules, Some, None, Option, sym, refl, ap, ◌∙◌, arith}
use Rattle.std.specs.Bool.{⊤}
use Rattle.std.specs.Iterator.{MakesProgress, item_count}
use Rattle.std.proofs.lemmas.Bool.{false≢true}
use Rattle.std.proofs.lemmas.Option.{none-some}
use Rattle.reader.specs.declared.class.Sort.{Sort}
use Rattle.reader.specs.declared.operands.Operand.{Operand}
use Rattle.reader.specs.declared.operands.Operands.{Operands}
use Rattle.reader.specs.Operands.{flag_most, turn, of_sort, before, or_none, chosen, chosen_last, operands, Left, Next, behind, of_width, first, next, all, given, given_last, read, spelled_by, spelled, view_left}

-- the first operand and then the rest are all the operands
abbrev pub joined : Option Next → Option (List Operand)
joined None = None
joined (Some n) = before n.operand (all n.left)

pub all_next : (l : Left) → 0 < length l.bytes → all l ≡ joined (next l)
all_next l h = by l.bytes h
  where
    within : (v : Bool) (s : Sort) (b : ℕ) (rest : List Sort) (bs : List ℕ)
        → cond v (before (of_sort s b) (operands l.again rest bs)) None ≡ joined (cond v (behind l.again rest (of_sort s b) bs) None)
    within true s b rest bs = refl
    within false s b rest bs = refl

    last : (o : Option ℕ) (b : ℕ) (s : Sort) (rest : List Sort) → chosen_last o s b (operands l.again rest []) ≡ joined (of_width o l.again s rest b [])
    last None b s rest = refl
    last (Some m) b s rest = within (leb b m) s b rest []

    more : (o : Option ℕ) (b c : ℕ) (cs : List ℕ) (s : Sort) (rest : List Sort)
        → chosen o s b c (operands l.again rest (c ∷ cs)) (operands l.again rest cs) ≡ joined (of_width o l.again s rest b (c ∷ cs))
    more None b c cs s rest = refl
    more (Some m) b c cs s rest = within (leb b m) s b rest (c ∷ cs)

    last_by : (b : ℕ) (ts : List Sort) → elim ts [ [] ↦ None | s ∷ rest ↦ chosen_last (flag_most s) s b (operands l.again rest []) ] ≡ joined (first l.again ts (b ∷ []))
    last_by b [] = refl
    last_by b (s ∷ rest) = last (flag_most s) b s rest

    more_by : (b c : ℕ) (cs : List ℕ) (ts : List Sort)
        → elim ts [ [] ↦ None | s ∷ rest ↦ chosen (flag_most s) s b c (operands l.again rest (c ∷ cs)) (operands l.again rest cs) ] ≡ joined (first l.again ts (b ∷ c ∷ cs))
    more_by b c cs [] = refl
    more_by b c cs (s ∷ rest) = more (flag_most s) b c cs s rest

    by : (bs : List ℕ) → 0 < length bs → operands l.again l.sorts bs ≡ joined (first l.again (turn l.again l.sorts) bs)
    by [] h = absurd (omega arith)
    by (b ∷ []) h = last_by b (turn l.again l.sorts)
    by (b ∷ c ∷ cs) h = more_by b c cs (turn l.again l.sorts)

pub some_before : {X : Type 0} (x : X) (o : Option (List X)) → is_some (before x o) ≡ is_some o
some_before x None = refl
some_before x (Some xs) = refl

-- the bytes fit exactly if those behind the first operand do
pub fits_on : (l : Left) (n : Next) → 0 < length l.bytes → Some n ≡ next l → is_some (all n.left) ≡ is_some (all l)
fits_on l n h e = sym (ap is_some (all_next l h ∙ ap joined (sym e)) ∙ some_before n.operand (all n.left))

none : {X Y : Type 0} {x : X} → Some x ≡ None → Y
none p = absurd (none-some _ (sym p))

-- a next operand stands in some bytes
next_bytes : (l : Left) (n : Next) → Some n ≡ next l → 0 < length l.bytes
next_bytes l n e = go (turn l.again l.sorts) l.bytes e
  where
    go : (ts : List Sort) (bs : List ℕ) → Some n ≡ first l.again ts bs → 0 < length bs
    go [] bs q = none q
    go (t ∷ ts) [] q = none q
    go (t ∷ ts) (b ∷ bs) q = omega arith

-- an operand before those that fit
joined_on : (x : Operand) (xs : List Operand) (o : Option (List Operand)) → (is_some o ≡ true → xs ≡ or_none o) → is_some (before x o) ≡ true
    → x ∷ xs ≡ or_none (before x o)
joined_on x xs None h f = absurd (false≢true f)
joined_on x xs (Some ys) h f = ap (λ l. x ∷ l) (h f)

-- the first operand that the bytes spell and then those of the rest
abbrev pub and_then : Option Next → List Operand
and_then None = []
and_then (Some n) = n.operand ∷ spelled n.left

pub spelled_next : (l : Left) → spelled l ≡ and_then (next l)
spelled_next l = by l.bytes
  where
    within : (v : Bool) (s : Sort) (b : ℕ) (rest : List Sort) (bs : List ℕ)
        → cond v (of_sort s b ∷ spelled_by l.again rest bs) [] ≡ and_then (cond v (behind l.again rest (of_sort s b) bs) None)
    within true s b rest bs = refl
    within false s b rest bs = refl

    last : (o : Option ℕ) (b : ℕ) (s : Sort) (rest : List Sort) → given_last o s b (spelled_by l.again rest []) ≡ and_then (of_width o l.again s rest b [])
    last None b s rest = refl
    last (Some m) b s rest = within (leb b m) s b rest []

    more : (o : Option ℕ) (b c : ℕ) (cs : List ℕ) (s : Sort) (rest : List Sort)
        → given o s b c (spelled_by l.again rest (c ∷ cs)) (spelled_by l.again rest cs) ≡ and_then (of_width o l.again s rest b (c ∷ cs))
    more None b c cs s rest = refl
    more (Some m) b c cs s rest = within (leb b m) s b rest (c ∷ cs)

    last_by : (b : ℕ) (ts : List Sort)
        → elim ts [ [] ↦ [] | s ∷ rest ↦ given_last (flag_most s) s b (spelled_by l.again rest []) ] ≡ and_then (first l.again ts (b ∷ []))
    last_by b [] = refl
    last_by b (s ∷ rest) = last (flag_most s) b s rest

    more_by : (b c : ℕ) (cs : List ℕ) (ts : List Sort)
        → elim ts [ [] ↦ [] | s ∷ rest ↦ given (flag_most s) s b c (spelled_by l.again rest (c ∷ cs)) (spelled_by l.again rest cs) ]
        ≡ and_then (first l.again ts (b ∷ c ∷ cs))
    more_by b c cs [] = refl
    more_by b c cs (s ∷ rest) = more (flag_most s) b c cs s rest

    none : (ts : List Sort) → [] ≡ and_then (first l.again ts [])
    none [] = refl
    none (s ∷ rest) = refl

    by : (bs : List ℕ) → spelled_by l.again l.sorts bs ≡ and_then (first l.again (turn l.again l.sorts) bs)
    by [] = none (turn l.again l.sorts)
    by (b ∷ []) = last_by b (turn l.again l.sorts)
    by (b ∷ c ∷ cs) = more_by b c cs (turn l.again l.sorts)

-- bytes that fit spell all the operands
abbrev Spells : List Sort → List ℕ → Type 0
Spells again bs = (ss : List Sort) → is_some (operands again ss bs) ≡ true → spelled_by again ss bs ≡ or_none (operands again ss bs)

module _ (again : List Sort) where
  spells_flag : (bs : List ℕ) → Spells again bs → (v : Bool) (x : Operand) (rest : List Sort)
      → is_some (cond v (before x (operands again rest bs)) None) ≡ true → cond v (x ∷ spelled_by again rest bs) [] ≡ or_none (cond v (before x (operands again rest bs)) None)
  spells_flag bs h false x rest f = refl
  spells_flag bs h true x rest f = joined_on x _ _ (h rest) f

  spells_last : (b : ℕ) → Spells again [] → Spells again (b ∷ [])
  spells_last b h ss f = by (turn again ss) f
    where
      wide : (o : Option ℕ) (s : Sort) (rest : List Sort) → is_some (chosen_last o s b (operands again rest [])) ≡ true
          → given_last o s b (spelled_by again rest []) ≡ or_none (chosen_last o s b (operands again rest []))
      wide None s rest f = refl
      wide (Some m) s rest f = spells_flag [] h (leb b m) (of_sort s b) rest f

      by : (ts : List Sort) → is_some (elim ts [ [] ↦ None | s ∷ rest ↦ chosen_last (flag_most s) s b (operands again rest []) ]) ≡ true
          → elim ts [ [] ↦ [] | s ∷ rest ↦ given_last (flag_most s) s b (spelled_by again rest []) ]
          ≡ or_none (elim ts [ [] ↦ None | s ∷ rest ↦ chosen_last (flag_most s) s b (operands again rest []) ])
      by [] f = refl
      by (s ∷ rest) f = wide (flag_most s) s rest f

  spells_more : (b c : ℕ) (cs : List ℕ) → Spells again (c ∷ cs) → Spells again cs → Spells again (b ∷ c ∷ cs)
  spells_more b c cs h k ss f = by (turn again ss) f
    where
      wide : (o : Option ℕ) (s : Sort) (rest : List Sort) → is_some (chosen o s b c (operands again rest (c ∷ cs)) (operands again rest cs)) ≡ true
          → given o s b c (spelled_by again rest (c ∷ cs)) (spelled_by again rest cs) ≡ or_none (chosen o s b c (operands again rest (c ∷ cs)) (operands again rest cs))
      wide None s rest f = joined_on _ _ _ (k rest) f
      wide (Some m) s rest f = spells_flag (c ∷ cs) h (leb b m) (of_sort s b) rest f

      by : (ts : List Sort) → is_some (elim ts [ [] ↦ None | s ∷ rest ↦ chosen (flag_most s) s b c (operands again rest (c ∷ cs)) (operands again rest cs) ]) ≡ true
          → elim ts [ [] ↦ [] | s ∷ rest ↦ given (flag_most s) s b c (spelled_by again rest (c ∷ cs)) (spelled_by again rest cs) ]
          ≡ or_none (elim ts [ [] ↦ None | s ∷ rest ↦ chosen (flag_most s) s b c (operands again rest (c ∷ cs)) (operands again rest cs) ])
      by [] f = refl
      by (s ∷ rest) f = wide (flag_most s) s rest f

  fits_by : (bs : List ℕ) → Spells again bs
  fits_by [] [] f = refl
  fits_by [] (s ∷ ss) f = refl
  fits_by (b ∷ []) ss f = spells_last b (fits_by []) ss f
  fits_by (b ∷ c ∷ cs) ss f = spells_more b c cs (fits_by (c ∷ cs)) (fits_by cs) ss f

pub fits_spelled : (l : Left) → is_some (all l) ≡ true → spelled l ≡ or_none (all l)
fits_spelled l = fits_by l.again l.bytes l.sorts

-- what a reader says of its next operand, as an iterator says it
pub gives : (o : Option Operand) (l m : Left) → read o m ≡ next l → IfNone o (m ≡ l) → MatchOption o ((spelled l ≡ []) × (spelled m ≡ [])) (λ x. spelled l ≡ x ∷ spelled m)
gives None l m r s = let e = spelled_next l ∙ ap and_then (sym r) in (e, ap spelled s ∙ e)
gives (Some x) l m r s = spelled_next l ∙ ap and_then (sym r)

pub goes : (o : Option Operand) (a b : Operands) → read o (view_left b) ≡ next (view_left a) → IfNone o (view_left b ≡ view_left a)
    → MakesProgress (λ s. ⊤) (item_count (λ s. spelled (view_left s))) a o b
goes None a b r s = search rules
goes (Some x) a b r s =
    let l : length (spelled (view_left b)) < length (spelled (view_left a)) = omega (arith, ap length (spelled_next (view_left a) ∙ ap and_then (sym r))) in
    search rules

-- after an operand the rest fits exactly if the whole does, and it is shorter
pub fits_read : (o : Option Operand) (l m : Left) → read o m ≡ next l → is_some o ≡ true → is_some (all m) ≡ is_some (all l)
fits_read None l m r e = absurd (false≢true e)
fits_read (Some x) l m r e = fits_on l (record { operand = x; left = m }) (next_bytes l _ r) r
