use Rattle.std.proofs.Common.{◌≡◌, ◌-◌, ◌≤◌, map, length, take, Ok, Err, sym, ap, ◌∙◌, subst, rules}
use native.Mathlib.Nat.{sub-zero}
use Rattle.std.proofs.lemmas.Result.{err_from_is_err_and}
use Rattle.reader.specs.declared.counts.Counts.{Counts}
use Rattle.reader.specs.Reading.{state, view_record, view_answer}
use Rattle.table.specs.Entries.{view_world, entry_at}
use Rattle.table.proofs.Sofar.{refuses, ends, types_fit, has_room, shorter, one_more_row}
use Rattle.table.proofs.tables.read_types.Goals as goal

pub returns-in_err-found : goal.returns-in_err-found
returns-in_err-found c =
    let e = err_from_is_err_and c.from_residual.result c.from_residual.ensures.1 in
    let o = refuses c.loop-found.invariant c.in_err-found.field-0.0 (sym c.in_err-found.ensures.answer) in
    ap view_world (e.1 ∙ ap Err e.2) ∙ sym o

pub bounds-offsets-count : goal.bounds-offsets-count
bounds-offsets-count c =
    let given = sym c.in_ok-found.ensures.answer ∙ ap (λ o. view_answer (Ok o)) c.in-Some.is in
    has_room c.loop-found.invariant (view_record c.in-Some.found) (state c.next.new.self) given c.in_ok-found.ensures.moves

pub loop-found-smaller : goal.loop-found-smaller
loop-found-smaller c =
    let given = sym c.in_ok-found.ensures.answer ∙ ap (λ o. view_answer (Ok o)) c.in-Some.is in
    shorter c.loop-found.invariant (view_record c.in-Some.found) (state c.next.new.self) given c.in_ok-found.ensures.moves

pub loop-found-preserved : goal.loop-found-preserved
loop-found-preserved c =
    let given = sym c.in_ok-found.ensures.answer ∙ ap (λ o. view_answer (Ok o)) c.in-Some.is in
    one_more_row c.loop-found.invariant (view_record c.in-Some.found) (state c.next.new.self) given c.in_ok-found.ensures.moves

pub slice_bounds-result-end : goal.slice_bounds-result-end
slice_bounds-result-end c =
    let none = sym c.in_ok-found.ensures.answer ∙ ap (λ o. view_answer (Ok o)) c.in_default.is in
    let fits : c.counts-types.result.types ≤ length c.loop-found.offsets =
    subst (λ (n : Counts). n.types ≤ length c.loop-found.offsets) (sym c.counts-types.ensures) (types_fit c.loop-found.invariant (state c.next.new.self) none c.in_ok-found.ensures.moves) in
    search rules

pub returns : goal.returns
returns c =
    let none = sym c.in_ok-found.ensures.answer ∙ ap (λ o. view_answer (Ok o)) c.in_default.is in
    let types : c.counts-types.result.types - 0 ≡ c.next.new.self.counts.types = sub-zero _ ∙ ap (λ (n : Counts). n.types) c.counts-types.ensures in
    ap (λ n. Ok (map (entry_at c.args.file.now) (take n c.loop-found.offsets))) types
    ∙ ends c.loop-found.invariant (state c.next.new.self) none c.in_ok-found.ensures.moves
