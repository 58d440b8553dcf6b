-- What becomes of a node's record, test by test.
use Rattle.std.proofs.Common.{◌≡◌, ℕ, ◌+◌, ◌<◌, ◌≤◌, Bool, true, false, cond, ltb, List, Some, None, Ok, Err, Option, Result, sym, refl, ap, ◌∙◌, arith}
use Rattle.std.proofs.lemmas.Bool.{lt-ltb, le-ltb}
use Rattle.reader.specs.declared.operands.Operand.{Operand}
use Rattle.reader.specs.Operands.{any}
use Rattle.reader.specs.Pieces.{byte_at}
use Rattle.indexing.specs.declared.faults.BodyFault.{BodyFault}
use Rattle.indexing.specs.declared.faults.BodyFault.TheVariants as fault
use Rattle.indexing.specs.declared.rows.Row.{Row}
use Rattle.indexing.specs.declared.rows.RowSort.{RowSort}
use Rattle.node.specs.Nodes.{class_at}
use Rattle.indexing.specs.Checks.{operands_left, listed, bad_operand, claims, deepest, home_misfits, sort_of, Entered, settled, enters}

-- `os` are the operands that the code reads
module _ (nodes : List Row) (bindings : ℕ) (taken : List Bool) (closing : Option ℕ) (offset : ℕ) (p : List ℕ) (os : List Operand) (e : os ≡ listed (operands_left p)) where
  pub enters_operand : any (bad_operand nodes bindings) os ≡ true → enters nodes bindings taken closing offset p ≡ Err (fault.Operand offset)
  enters_operand h = rw (sym (ap (any (bad_operand nodes bindings)) e) ∙ h)

  named : any (bad_operand nodes bindings) os ≡ false → (o : Option (List Bool)) → claims taken os ≡ o
      → enters nodes bindings taken closing offset p ≡ settled nodes closing offset p (listed (operands_left p)) o
  named h o k = rw (sym (ap (any (bad_operand nodes bindings)) e) ∙ h, sym (ap (claims taken) e) ∙ k)

  pub enters_parent : any (bad_operand nodes bindings) os ≡ false → claims taken os ≡ None → enters nodes bindings taken closing offset p ≡ Err (fault.Parent offset)
  enters_parent h k = named h None k

  module _ (h : any (bad_operand nodes bindings) os ≡ false) (marked : List Bool) (k : claims taken os ≡ Some marked) (depth : ℕ) (d : depth ≡ deepest nodes 0 os) where
    deep : deepest nodes 0 (listed (operands_left p)) ≡ depth
    deep = sym (d ∙ ap (deepest nodes 0) e)

    pub enters_nesting : 128 < depth + 1 → enters nodes bindings taken closing offset p ≡ Err (fault.Nesting offset)
    enters_nesting g = named h (Some marked) k ∙ (rw (deep, lt-ltb 128 (depth + 1) g))

    module _ (home : ℕ) (is_home : home ≡ byte_at p 0) (g : depth + 1 ≤ 128) where
      housed : (b : Bool) → home_misfits nodes home closing os ≡ b → home_misfits nodes (byte_at p 0) closing (listed (operands_left p)) ≡ b
      housed b m = sym (ap (home_misfits nodes (byte_at p 0) closing) e) ∙ ap (λ x. home_misfits nodes x closing os) (sym is_home) ∙ m

      pub enters_home : home_misfits nodes home closing os ≡ true → enters nodes bindings taken closing offset p ≡ Err (fault.Home offset)
      enters_home m = named h (Some marked) k ∙ (rw (deep, le-ltb 128 (depth + 1) g, housed true m))

      pub enters_ok : home_misfits nodes home closing os ≡ false → (s : RowSort) → s ≡ sort_of (class_at p)
          → enters nodes bindings taken closing offset p ≡ Ok (record { row = record { offset = offset; sort = s; home = home; depth = depth + 1 }; taken = marked })
      enters_ok m s q = named h (Some marked) k ∙ (rw (deep, le-ltb 128 (depth + 1) g, housed false m, q, is_home))

-- what is known of a node that came through
pub record Came (nodes : List Row) (bindings : ℕ) (closing : Option ℕ) (offset : ℕ) (p : List ℕ) (x : Entered) : Type 0 where
  pub named : any (bad_operand nodes bindings) (listed (operands_left p)) ≡ false
  pub housed : home_misfits nodes (byte_at p 0) closing (listed (operands_left p)) ≡ false
  pub row_is : x.row ≡ record { offset = offset; sort = sort_of (class_at p); home = byte_at p 0; depth = deepest nodes 0 (listed (operands_left p)) + 1 }

apart : {X : Type 0} → ◌≡◌ {A = ℕ} 0 1 → X
apart e = absurd (omega arith)

pub came : (nodes : List Row) (bindings : ℕ) (taken : List Bool) (closing : Option ℕ) (offset : ℕ) (p : List ℕ) (x : Entered)
    → enters nodes bindings taken closing offset p ≡ Ok x → Came nodes bindings closing offset p x
came nodes bindings taken closing offset p x = bad (any (bad_operand nodes bindings) (listed (operands_left p))) refl
  where
    home : (m : List Bool) → any (bad_operand nodes bindings) (listed (operands_left p)) ≡ false → (b : Bool) → home_misfits nodes (byte_at p 0) closing (listed (operands_left p)) ≡ b
        → cond b (Err (fault.Home offset)) (Ok (record { row = record { offset = offset; sort = sort_of (class_at p); home = byte_at p 0; depth = deepest nodes 0 (listed (operands_left p)) + 1 }; taken = m })) ≡ Ok x
        → Came nodes bindings closing offset p x
    home m n true e z = apart (cc)
    home m n false e z = record {
      named = n;
      housed = e;
      row_is = sym (ap (λ (r : Result Entered BodyFault). elim r as (λ _. Row) [ Ok y ↦ y.row | Err _ ↦ x.row ]) z);
    }

    deep : (m : List Bool) → any (bad_operand nodes bindings) (listed (operands_left p)) ≡ false → (b : Bool)
        → cond b (Err (fault.Nesting offset)) (cond (home_misfits nodes (byte_at p 0) closing (listed (operands_left p))) (Err (fault.Home offset)) (Ok (record { row = record { offset = offset; sort = sort_of (class_at p); home = byte_at p 0; depth = deepest nodes 0 (listed (operands_left p)) + 1 }; taken = m }))) ≡ Ok x
        → Came nodes bindings closing offset p x
    deep m n true z = apart (cc)
    deep m n false z = home m n (home_misfits nodes (byte_at p 0) closing (listed (operands_left p))) refl z

    claimed : any (bad_operand nodes bindings) (listed (operands_left p)) ≡ false → (o : Option (List Bool)) → settled nodes closing offset p (listed (operands_left p)) o ≡ Ok x → Came nodes bindings closing offset p x
    claimed n None z = apart (cc)
    claimed n (Some m) z = deep m n (ltb 128 (deepest nodes 0 (listed (operands_left p)) + 1)) z

    bad : (b : Bool) → any (bad_operand nodes bindings) (listed (operands_left p)) ≡ b
        → cond b (Err (fault.Operand offset)) (settled nodes closing offset p (listed (operands_left p)) (claims taken (listed (operands_left p)))) ≡ Ok x → Came nodes bindings closing offset p x
    bad true e z = apart (cc)
    bad false e z = claimed e (claims taken (listed (operands_left p))) z
