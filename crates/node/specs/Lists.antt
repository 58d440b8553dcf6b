-- The parts of a node that are lists: adjustments of three bytes each, fields of two numbers and arms of three.
use Rattle.std.specs.Prelude.{◌≡◌, ℕ, ◌+◌, ◌*◌, ◌/◌, ◌<◌, List, [], ◌∷◌, length, drop, refl, slice_index_or}
use Rattle.std.proofs.Common.{arith}
use Rattle.reader.specs.Numbers.{numbers}
use Rattle.node.specs.declared.lists.Adjust.{Adjust}
use Rattle.node.specs.declared.lists.Adjust.TheVariants.{Never, BuiltinDeref, OverloadedShared, OverloadedMut, BorrowShared, BorrowMut, PointerCast}
use Rattle.node.specs.declared.lists.Adjustment.{Adjustment}
use Rattle.node.specs.declared.lists.FieldPat.{FieldPat}
use Rattle.node.specs.declared.lists.Arm.{Arm}

-- adjustments, by code from 0
abbrev pub adjusts : List Adjust
adjusts = Never ∷ BuiltinDeref ∷ OverloadedShared ∷ OverloadedMut ∷ BorrowShared ∷ BorrowMut ∷ PointerCast ∷ []

abbrev pub adjust_of : ℕ → Adjust
adjust_of c = slice_index_or adjusts c Never

abbrev pub no_adjustment : Adjustment
no_adjustment = record { kind = Never; target = 0 }

-- a code byte and the number of the type that it leads to
abbrev pub adjustments : List ℕ → List Adjustment
adjustments [] = []
adjustments (c ∷ []) = []
adjustments (c ∷ h ∷ []) = []
adjustments (c ∷ h ∷ l ∷ bs) = record { kind = adjust_of c; target = h * 256 + l } ∷ adjustments bs

abbrev pub no_field : FieldPat
no_field = record { step = 0; pat = 0 }

-- a step and the pattern there
abbrev pub pairs : List ℕ → List FieldPat
pairs [] = []
pairs (s ∷ []) = []
pairs (s ∷ p ∷ xs) = record { step = s; pat = p } ∷ pairs xs

abbrev pub no_arm : Arm
no_arm = record { pat = 0; guard = 0; body = 0 }

-- a pattern, a guard (0: none) and an expression
abbrev pub triples : List ℕ → List Arm
triples [] = []
triples (p ∷ []) = []
triples (p ∷ g ∷ []) = []
triples (p ∷ g ∷ e ∷ xs) = record { pat = p; guard = g; body = e } ∷ triples xs

-- the laws of adjustments, of fields and of arms as entries
pub some_adjustment : 0 < 3
some_adjustment = omega arith

pub count_adjustments : (bs : List ℕ) → length (adjustments bs) ≡ length bs / 3
count_adjustments [] = refl
count_adjustments (a ∷ []) = refl
count_adjustments (a ∷ b ∷ []) = refl
count_adjustments (a ∷ b ∷ c ∷ bs) = let e = count_adjustments bs in omega arith

pub step_adjustments : (bs : List ℕ) → drop 1 (adjustments bs) ≡ adjustments (drop 3 bs)
step_adjustments [] = refl
step_adjustments (a ∷ []) = refl
step_adjustments (a ∷ b ∷ []) = refl
step_adjustments (a ∷ b ∷ c ∷ bs) = refl

pub some_pair : 0 < 4
some_pair = omega arith

pub count_pairs : (bs : List ℕ) → length (pairs (numbers bs)) ≡ length bs / 4
count_pairs [] = refl
count_pairs (a ∷ []) = refl
count_pairs (a ∷ b ∷ []) = refl
count_pairs (a ∷ b ∷ c ∷ []) = refl
count_pairs (a ∷ b ∷ c ∷ d ∷ bs) = let e = count_pairs bs in omega arith

pub step_pairs : (bs : List ℕ) → drop 1 (pairs (numbers bs)) ≡ pairs (numbers (drop 4 bs))
step_pairs [] = refl
step_pairs (a ∷ []) = refl
step_pairs (a ∷ b ∷ []) = refl
step_pairs (a ∷ b ∷ c ∷ []) = refl
step_pairs (a ∷ b ∷ c ∷ d ∷ bs) = refl

pub some_triple : 0 < 6
some_triple = omega arith

pub count_triples : (bs : List ℕ) → length (triples (numbers bs)) ≡ length bs / 6
count_triples [] = refl
count_triples (a ∷ []) = refl
count_triples (a ∷ b ∷ []) = refl
count_triples (a ∷ b ∷ c ∷ []) = refl
count_triples (a ∷ b ∷ c ∷ d ∷ []) = refl
count_triples (a ∷ b ∷ c ∷ d ∷ e ∷ []) = refl
count_triples (a ∷ b ∷ c ∷ d ∷ e ∷ f ∷ bs) = let i = count_triples bs in omega arith

pub step_triples : (bs : List ℕ) → drop 1 (triples (numbers bs)) ≡ triples (numbers (drop 6 bs))
step_triples [] = refl
step_triples (a ∷ []) = refl
step_triples (a ∷ b ∷ []) = refl
step_triples (a ∷ b ∷ c ∷ []) = refl
step_triples (a ∷ b ∷ c ∷ d ∷ []) = refl
step_triples (a ∷ b ∷ c ∷ d ∷ e ∷ []) = refl
step_triples (a ∷ b ∷ c ∷ d ∷ e ∷ f ∷ bs) = refl
