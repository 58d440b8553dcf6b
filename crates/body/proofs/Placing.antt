-- The records of a body that opens lie where its rows say.
use Rattle.std.proofs.Common.{◌≡◌, ℕ, ◌+◌, List, length, drop, Some, None, Ok, Err, Option, Result, sym, refl, ap, ◌∙◌, subst, add_assoc}
use Rattle.std.proofs.ByRecursion.{All-push}
use Rattle.std.proofs.lemmas.List.{drop-drop}
use Rattle.reader.specs.declared.payload.Item.{Item}
use Rattle.reader.specs.declared.payload.Item.TheVariants as item
use Rattle.reader.specs.Pieces.{parse, byte_at, number_at, payload_or, payload_at}
use Rattle.reader.specs.Reading.{State, start, Found}
use Rattle.reader.specs.Types.{type_of}
use Rattle.reader.proofs.Parsing.{parse_rest}
use Rattle.reader.proofs.Stepping.{Stepped}
use Rattle.node.specs.Nodes.{node_of}
use Rattle.indexing.specs.declared.faults.BodyFault.{BodyFault}
use Rattle.indexing.specs.declared.rows.Row.{Row}
use Rattle.body.specs.Drafts.{or_empty, drafted}
use Rattle.indexing.specs.Opening.{Draft, empty, add_as, adds, opened}
use Rattle.body.specs.Placed.{TypeThere, BindingThere, NodeThere, Placed}
use Rattle.body.proofs.Keeping.{scan_keeps}
use Rattle.body.proofs.Sounding.{Made, made, ok_same}

module _ (file : List ℕ) where
  record Held (s : State) (d : Draft) : Type 0 where
    here : s.bytes ≡ drop s.offset file
    placed : Placed file d

  module _ (t : State) (d e : Draft) (offset : ℕ) (p : List ℕ) (there : t.bytes ≡ drop t.offset file) (at : payload_at file offset ≡ p) (h : Placed file d) where
    held_node : (closed : Option ℕ) → Made d closed offset p e → Held t e
    held_node closed m =
        let row : payload_at file m.entered.row.offset ≡ p = ap (λ (r : Row). payload_at file r.offset) m.through.row_is ∙ at in
        subst (Held t) (ok_same _ e m.is) (record {
          here = there;
          placed = record { types = h.types; bindings = h.bindings; nodes = All-push (NodeThere file) d.nodes _ h.nodes (ap node_of (sym row)) };
        })

    held_as : (i : Item) → add_as i d offset p ≡ Ok e → Held t e
    held_as item.«Type» z = subst (Held t) (ok_same _ e z) (record {
      here = there;
      placed = record { types = All-push (TypeThere file) d.types _ h.types (ap type_of (sym at)); bindings = h.bindings; nodes = h.nodes };
    })
    held_as item.Binding z = subst (Held t) (ok_same _ e z) (record {
      here = there;
      placed = record { types = h.types; bindings = All-push (BindingThere file) d.bindings _ h.bindings (ap (λ l. number_at l 0) (sym at), ap (λ l. byte_at l 2) (sym at), ap (drop 3) (sym at)); nodes = h.nodes };
    })
    held_as item.Node z = held_node None (made d None offset p e z)
    held_as item.Closure z = held_node (Some (length d.closures + 1)) (made d (Some (length d.closures + 1)) offset p e z)

  keeps : (n : ℕ) (s t : State) (d e : Draft) (f : Found) → Stepped n s f t → adds d f ≡ Ok e → Held s d → Held t e
  keeps n s t d e f st z k =
      let at : payload_at file f.offset ≡ f.payload = ap (λ o. payload_at file o) st.here ∙ ap (λ l. payload_or (parse l)) (sym k.here) ∙ ap payload_or st.parsed in
      let there : t.bytes ≡ drop t.offset file =
      parse_rest s.bytes _ st.parsed ∙ ap (drop (3 + length f.payload)) k.here ∙ drop-drop (3 + length f.payload) s.offset file
      ∙ ap (λ n. drop n file) (sym (st.there ∙ add_assoc s.offset 3 (length f.payload))) in
      held_as t d e f.offset f.payload there at k.placed f.item z

  pub opened_placed : (rows : ℕ) (d : Draft) → opened rows file ≡ Ok d → Placed file d
  opened_placed rows d z = (scan_keeps Held keeps rows (start file) empty d (record { here = refl; placed = record { types = tt; bindings = tt; nodes = tt } }) z).1.placed

  pub drafted_placed : (rows : List Row) → Placed file (drafted rows file)
  drafted_placed rows = by (opened (length rows) file) refl
    where
      by : (r : Result Draft BodyFault) → opened (length rows) file ≡ r → Placed file (or_empty r)
      by (Ok d) e = opened_placed (length rows) d e
      by (Err x) e = record { types = tt; bindings = tt; nodes = tt }
