-- The records of a body by number, and where they lie.
use Rattle.std.proofs.Common.{◌≡◌, ℕ, zero, suc, ◌+◌, ◌-◌, ◌<◌, ◌≤◌, true, false, cond, ◌⊎◌, List, [], ◌∷◌, ◌++◌, length, get_or, take, drop, Bor, Option, option_copied, Some, None, sym, refl, ap, ◌∙◌, inl, inr, arith}
use Rattle.std.proofs.ByRecursion.{All-get_or}
use Rattle.std.proofs.lemmas.List.{get_or-take, get_or-drop, get_or-map, length-map, get_or_append_left}
use Rattle.std.proofs.lemmas.Bool.{eq-eqb, ne_eqb, lt-ltb, le-ltb, cases_lt}
use Rattle.std.specs.Option.{option_map}
use Rattle.reader.specs.Pieces.{byte_at, number_at, payload_at}
use Rattle.reader.specs.Types.{type_of}
use Rattle.node.specs.Nodes.{node_of}
use Rattle.indexing.specs.declared.rows.Row.{Row}
use Rattle.reader.specs.Numbers.{numbered}
use Rattle.body.specs.Answers.{type_in, BindingAt, bound, binding_in, node_in, home_in, outward}
use Rattle.indexing.specs.Opening.{Draft, TypeEntry, BindingEntry, NodeEntry, type_rows, binding_rows, node_rows, rows_of}
use Rattle.body.specs.declared.bodies.Body.{Body}
use Rattle.body.specs.Bodies.{body_of}
use Rattle.body.proofs.Placing.{drafted_placed}
use Rattle.body.specs.Placed.{TypeThere, BindingThere, NodeThere, Placed, payload_in}
use Rattle.indexing.specs.Rows.{no_row}
use Rattle.indexing.proofs.Adding.{nodes_behind, bindings_behind}

pub numbered_none : {X : Type 0} (xs : List X) (n : ℕ) → length xs < n → numbered xs n ≡ None
numbered_none xs zero l = absurd (omega arith)
numbered_none [] (suc n) l = refl
numbered_none (x ∷ xs) (suc zero) l = absurd (omega arith)
numbered_none (x ∷ xs) (suc (suc n)) l = numbered_none xs (suc n) (omega arith)

numbered_at : {X : Type 0} (xs : List X) (n : ℕ) (d : X) → n < length xs → numbered xs (suc n) ≡ Some (get_or xs n d)
numbered_at [] n d l = absurd (omega arith)
numbered_at (x ∷ xs) zero d l = refl
numbered_at (x ∷ xs) (suc n) d l = numbered_at xs n d (omega arith)

pub numbered_some : {X : Type 0} (xs : List X) (n : ℕ) (d : X) → 0 < n → n ≤ length xs → numbered xs n ≡ Some (get_or xs (n - 1) d)
numbered_some xs zero d p l = absurd (omega arith)
numbered_some xs (suc n) d p l = numbered_at xs n d (omega arith) ∙ ap (λ k. Some (get_or xs k d)) (let e : n ≡ suc n - 1 = omega arith in e)

-- a list of entries, each of which is what its row's place in the file says, by number
module _ {X Y : Type 0} (rows : List Row) (file : List ℕ) (before : ℕ) (xs : List X) (row : X → Row) (view : X → Y) (of : List ℕ → Y) (d : X)
    (rows_are : (k : ℕ) → k < length xs → get_or rows (before + k) no_row ≡ row (get_or xs k d))
    (views_are : (k : ℕ) → k < length xs → view (get_or xs k d) ≡ of (payload_at file (row (get_or xs k d)).offset)) where
  told : (n : ℕ) → option_map of (payload_in rows file before (length xs) n) ≡ option_map view (numbered xs n)
  told zero = refl
  told (suc n) = by (cases_lt n (length xs))
    where
      by : (n < length xs) ⊎ (length xs ≤ n) → option_map of (payload_in rows file before (length xs) (suc n)) ≡ option_map view (numbered xs (suc n))
      by (inl l) =
          ap (λ b. option_map of (cond b (Some (payload_at file (get_or rows (before + n) no_row).offset)) None)) (lt-ltb n (length xs) l)
          ∙ ap (λ (r : Row). Some (of (payload_at file r.offset))) (rows_are n l) ∙ ap Some (sym (views_are n l)) ∙ sym (ap (option_map view) (numbered_at xs n d l))
      by (inr g) =
          ap (λ b. option_map of (cond b (Some (payload_at file (get_or rows (before + n) no_row).offset)) None)) (le-ltb n (length xs) g)
          ∙ sym (ap (option_map view) (numbered_none xs (suc n) (omega arith)))

abbrev pub binding_from : List ℕ → BindingAt
binding_from q = record { type = number_at q 0; owner = byte_at q 2; name = drop 3 q }

module _ (file : List ℕ) (d : Draft) (placed : Placed file d) where
  pub type_told : (n : ℕ) → option_map type_of (payload_in (rows_of d) file 0 (length d.types) n) ≡ type_in d n
  type_told =
      let e : TypeEntry = record { row = no_row; type = type_of [] } in
      told (rows_of d) file 0 d.types (λ (x : TypeEntry). x.row) (λ (x : TypeEntry). x.type) type_of e
      (λ k l. ap (λ i. get_or (rows_of d) i no_row) (omega arith)
      ∙ get_or_append_left (type_rows d) (binding_rows d ++ node_rows d) no_row k (omega (arith, length-map d.types (λ (x : TypeEntry). x.row)))
      ∙ get_or-map (λ (x : TypeEntry). x.row) d.types k e no_row l)
      (λ k l. All-get_or (TypeThere file) d.types k e l placed.types)

  pub binding_told : (n : ℕ) → option_map binding_from (payload_in (rows_of d) file (length d.types) (length d.bindings) n) ≡ binding_in d n
  binding_told =
      let e : BindingEntry = record { row = no_row; type = 0; owner = 0; name = [] } in
      told (rows_of d) file (length d.types) d.bindings (λ (x : BindingEntry). x.row) bound binding_from e
      (λ k l. sym (get_or-drop (length d.types) (rows_of d) k no_row) ∙ sym (get_or-take (length d.bindings) (drop (length d.types) (rows_of d)) k no_row l)
      ∙ ap (λ r. get_or r k no_row) (bindings_behind d) ∙ get_or-map (λ (x : BindingEntry). x.row) d.bindings k e no_row l)
      (λ k l. let there = All-get_or (BindingThere file) d.bindings k e l placed.bindings in (λ i. record { type = there.0 i; owner = there.1 i; name = there.2 i }))

  pub node_told : (n : ℕ) → option_map node_of (payload_in (rows_of d) file (length d.types + length d.bindings) (length d.nodes) n) ≡ node_in d n
  node_told =
      let e : NodeEntry = record { row = no_row; node = node_of [] } in
      told (rows_of d) file (length d.types + length d.bindings) d.nodes (λ (x : NodeEntry). x.row) (λ (x : NodeEntry). x.node) node_of e
      (λ k l. sym (get_or-drop (length d.types + length d.bindings) (rows_of d) k no_row) ∙ ap (λ r. get_or r k no_row) (nodes_behind d)
      ∙ get_or-map (λ (x : NodeEntry). x.row) d.nodes k e no_row l)
      (λ k l. All-get_or (NodeThere file) d.nodes k e l placed.nodes)

-- the records of a body, from the payloads that the code finds
module _ (b : Body) (n : ℕ) (o : Option (Bor (List ℕ))) where
  pub type_found : (types : ℕ) → types ≡ length (body_of b).types → option_copied o ≡ payload_in (rows_of (body_of b)) b.file.now 0 types n
      → option_map type_of (option_copied o) ≡ type_in (body_of b) n
  type_found types t e =
      ap (option_map type_of) (e ∙ (λ i. payload_in (rows_of (body_of b)) b.file.now 0 (t i) n)) ∙ type_told b.file.now (body_of b) (drafted_placed b.file.now b.rows.now) n

  pub binding_found : (types bindings : ℕ) → types ≡ length (body_of b).types → bindings ≡ length (body_of b).bindings
      → option_copied o ≡ payload_in (rows_of (body_of b)) b.file.now types bindings n → option_map binding_from (option_copied o) ≡ binding_in (body_of b) n
  binding_found types bindings t k e =
      ap (option_map binding_from) (e ∙ (λ i. payload_in (rows_of (body_of b)) b.file.now (t i) (k i) n))
      ∙ binding_told b.file.now (body_of b) (drafted_placed b.file.now b.rows.now) n

  pub node_found : (types bindings nodes : ℕ) → types ≡ length (body_of b).types → bindings ≡ length (body_of b).bindings → nodes ≡ length (body_of b).nodes
      → option_copied o ≡ payload_in (rows_of (body_of b)) b.file.now (types + bindings) nodes n → option_map node_of (option_copied o) ≡ node_in (body_of b) n
  node_found types bindings nodes t k m e =
      ap (option_map node_of) (e ∙ (λ i. payload_in (rows_of (body_of b)) b.file.now (t i + k i) (m i) n))
      ∙ node_told b.file.now (body_of b) (drafted_placed b.file.now b.rows.now) n

-- a number that is none
pub numbered_past : {X : Type 0} (xs : List X) (n count : ℕ) → count ≡ length xs → (n ≡ 0) ⊎ ((n ≡ 0 → ⊥) × (count < n)) → None ≡ numbered xs n
numbered_past xs n count e (inl z) = sym (ap (numbered xs) z)
numbered_past xs n count e (inr l) = sym (numbered_none xs n (omega (arith, l.1)))

-- the closures' nodes, which stand in the table from its second place on
module _ (cs table : List ℕ) (named : take (length cs) (drop 1 table) ≡ cs) (n : ℕ) (p : 0 < n) (l : n ≤ length cs) where
  pub number_told : Some (get_or table n 0) ≡ numbered cs n
  number_told =
      let one : 1 + (n - 1) ≡ n = omega arith in
      let k : n - 1 < length cs = omega arith in
      ap (λ m. Some (get_or table m 0)) (sym one) ∙ ap Some (sym (get_or-drop 1 table (n - 1) 0) ∙ sym (get_or-take (length cs) (drop 1 table) (n - 1) 0 k) ∙ ap (λ r. get_or r (n - 1) 0) named)
      ∙ sym (numbered_some cs n 0 p l)

-- one home outward
pub outward_found : (n : ℕ) (d : Draft) (outer home : ℕ) → 0 < n → (home ≡ 0 → ⊥) → home ≡ outer → true ≡ outward n d outer home
outward_found zero d outer home p h e = absurd (omega arith)
outward_found (suc n) d outer home p h e = rw (ne_eqb home 0 h, eq-eqb home outer e)

pub outward_on : (n : ℕ) (d : Draft) (outer home : ℕ) → 0 < n → (home ≡ 0 → ⊥) → (home ≡ outer → ⊥) → outward (n - 1) d outer (home_in d home) ≡ outward n d outer home
outward_on zero d outer home p h e = absurd (omega arith)
outward_on (suc n) d outer home p h e = let m : suc n - 1 ≡ n = omega arith in rw (ne_eqb home 0 h, ne_eqb home outer e, m)

pub outward_end : (n : ℕ) (d : Draft) (outer home : ℕ) → (n ≡ 0) ⊎ (home ≡ 0) → false ≡ outward n d outer home
outward_end zero d outer home e = refl
outward_end (suc n) d outer home (inl e) = absurd (omega arith)
outward_end (suc n) d outer home (inr e) = rw (eq-eqb home 0 e)
