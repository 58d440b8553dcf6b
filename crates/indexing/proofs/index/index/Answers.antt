use Rattle.std.proofs.Common.{◌≡◌, ℕ, ◌+◌, ◌-◌, ◌≤◌, false, List, length, take, set, replicate, Ok, Err, sym, ap, ◌∙◌, subst}
use native.Mathlib.Nat.{sub-zero}
use Rattle.std.proofs.lemmas.Result.{err_from_is_err_and}
use Rattle.reader.specs.declared.counts.Counts.{Counts}
use Rattle.reader.specs.Reading.{State, state, view_record, view_answer}
use Rattle.reader.proofs.Stepping.{stayed}
use Rattle.indexing.specs.Indexing.{Indexes, row_for, noted, ended, Indexed}
use Rattle.indexing.proofs.Sofar.{Sofar, begin, reader_refuses, body_refuses, operands_told, has_room, shorter, one_more_row, before_nodes, end_refuses, end_grants, indexed}
use Rattle.indexing.proofs.index.index.Goals as goal

pub loop-found-init : goal.loop-found-init
loop-found-init c =
    subst (λ (s : State). Sofar c.args.file.now c.args.rows.now s c.args.rows.now 0 (replicate 2049 false) (replicate 65 0)) (sym c.new-reader.ensures) (begin c.args.file.now c.args.rows.now)

pub returns-in_err-found : goal.returns-in_err-found
returns-in_err-found c =
    let e = err_from_is_err_and c.from_residual.result c.from_residual.ensures.1 in
    let o = reader_refuses c.loop-found.invariant c.in_err-found.field-0.0 (sym c.in_err-found.ensures.answer) in
    subst (λ x. Indexes x c.from_residual.result c.loop-found.rows) (sym o) (e.1 ∙ ap Err e.2)

pub row_for-requires : goal.row_for-requires
row_for-requires c =
    let given = sym c.in_ok-found.ensures.answer ∙ ap (λ o. view_answer (Ok o)) c.in-Some.is in
    operands_told c.loop-found.invariant (view_record c.in-Some.found) (state c.next.new.self) given c.in_ok-found.ensures.moves

pub returns-in_err-row : goal.returns-in_err-row
returns-in_err-row c =
    let given = sym c.in_ok-found.ensures.answer ∙ ap (λ o. view_answer (Ok o)) c.in-Some.is in
    let f = view_record c.in-Some.found in
    let e = err_from_is_err_and c.from_residual-in_err-row.result c.from_residual-in_err-row.ensures.1 in
    let row = (λ i. row_for (take (sym (sub-zero c.loop-found.count) i) c.loop-found.rows) (sym c.counts-counts.ensures i) c.loop-found.marks f) ∙ c.in_err-row.ensures in
    let o = body_refuses c.loop-found.invariant f (state c.next.new.self) given c.in_ok-found.ensures.moves c.in_err-row.field-0.0 row in
    subst (λ x. Indexes x c.from_residual-in_err-row.result c.loop-found.rows) (sym o) (e.1 ∙ ap Err e.2)

pub bounds-rows-count : goal.bounds-rows-count
bounds-rows-count c =
    let given = sym c.in_ok-found.ensures.answer ∙ ap (λ o. view_answer (Ok o)) c.in-Some.is in
    has_room c.loop-found.invariant (view_record c.in-Some.found) (state c.next.new.self) given c.in_ok-found.ensures.moves

pub loop-found-smaller : goal.loop-found-smaller
loop-found-smaller c =
    let given = sym c.in_ok-found.ensures.answer ∙ ap (λ o. view_answer (Ok o)) c.in-Some.is in
    shorter c.loop-found.invariant (view_record c.in-Some.found) (state c.next.new.self) given c.in_ok-found.ensures.moves

pub loop-found-preserved : goal.loop-found-preserved
loop-found-preserved c =
    let given = sym c.in_ok-found.ensures.answer ∙ ap (λ o. view_answer (Ok o)) c.in-Some.is in
    let f = view_record c.in-Some.found in
    let row = (λ i. row_for (take (sym (sub-zero c.loop-found.count) i) c.loop-found.rows) (sym c.counts-counts.ensures i) c.loop-found.marks f) ∙ c.in_ok-row.ensures in
    let noted_so : c.note.new.closures ≡ noted c.loop-found.closures c.next.new.self.counts c.in-Some.found.item = c.note.ensures ∙ ap (λ (n : Counts). noted c.loop-found.closures n c.in-Some.found.item) c.counts-counts.ensures in
    let long : length c.row_for.new.marks ≡ 2049 = c.row_for.auto.marks ∙ c.loop-found.invariant.marked in
    subst (λ (l : List ℕ). Sofar c.args.file.now c.args.rows.now (state c.next.new.self) (set c.loop-found.rows c.loop-found.count c.in_ok-row.row) (c.loop-found.count + 1) c.row_for.new.marks l)
    (sym noted_so) (one_more_row c.loop-found.invariant f (state c.next.new.self) given c.in_ok-found.ensures.moves (record { row = c.in_ok-row.row; taken = c.row_for.new.marks }) row long)

pub check_end-requires : goal.check_end-requires
check_end-requires c =
    let none = sym c.in_ok-found.ensures.answer ∙ ap (λ o. view_answer (Ok o)) c.in_default.is in
    let counts : c.counts-counts-2.result ≡ (state c.loop-found.reader).counts = c.counts-counts-2.ensures ∙ ap (λ (s : State). s.counts) (c.in_ok-found.ensures.moves ∙ stayed _ (state c.loop-found.reader) none) in
    let count = c.loop-found.count in let rows = c.loop-found.rows in
    subst (λ (n : Counts). n.types + n.bindings ≤ length (take (count - 0) rows)) (sym counts) (subst (λ k. (state c.loop-found.reader).counts.types + (state c.loop-found.reader).counts.bindings ≤ length (take k rows)) (sym (sub-zero count)) (before_nodes c.loop-found.invariant))

pub returns-in_err-check_end : goal.returns-in_err-check_end
returns-in_err-check_end c =
    let none = sym c.in_ok-found.ensures.answer ∙ ap (λ o. view_answer (Ok o)) c.in_default.is in
    let counts : c.counts-counts-2.result ≡ (state c.loop-found.reader).counts = c.counts-counts-2.ensures ∙ ap (λ (s : State). s.counts) (c.in_ok-found.ensures.moves ∙ stayed _ (state c.loop-found.reader) none) in
    let e = err_from_is_err_and c.from_residual-in_err-check_end.result c.from_residual-in_err-check_end.ensures.1 in
    let end = (λ i. ended (take (sym (sub-zero c.loop-found.count) i) c.loop-found.rows) (sym counts i) c.loop-found.marks) ∙ sym c.in_err-check_end.ensures in
    let o = end_refuses c.loop-found.invariant none c.in_err-check_end.field-0.0 end in
    subst (λ x. Indexes x c.from_residual-in_err-check_end.result c.loop-found.rows) (sym o) (e.1 ∙ ap Err e.2)

pub returns : goal.returns
returns c =
    let none = sym c.in_ok-found.ensures.answer ∙ ap (λ o. view_answer (Ok o)) c.in_default.is in
    let counts : c.counts-counts-2.result ≡ (state c.loop-found.reader).counts = c.counts-counts-2.ensures ∙ ap (λ (s : State). s.counts) (c.in_ok-found.ensures.moves ∙ stayed _ (state c.loop-found.reader) none) in
    let end = (λ i. ended (take (sym (sub-zero c.loop-found.count) i) c.loop-found.rows) (sym counts i) c.loop-found.marks) ∙ sym c.in_ok-check_end.ensures in
    let o = end_grants c.loop-found.invariant none end in
    subst (λ x. Indexes x (Ok (record { counts = c.counts-counts-2.result; closures = c.loop-found.closures })) c.loop-found.rows) (sym o)
    (subst (λ (n : Counts). Indexed c.loop-found.invariant.draft (record { counts = n; closures = c.loop-found.closures }) c.loop-found.rows) (sym counts) (indexed c.loop-found.invariant))
