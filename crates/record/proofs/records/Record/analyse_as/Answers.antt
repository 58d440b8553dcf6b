use Rattle.std.proofs.Common.{◌≡◌, ℕ, map, length, take, drop, Ok, Err, refl, ap, ◌∙◌, subst, rules}
use Rattle.cover.specs.Tables.{Written}
use Rattle.cover.specs.Views.{captured}
use Rattle.analysis.specs.Answers.{shown}
use Rattle.closures.specs.Ledger.{kept_by}
use Rattle.closures.specs.Views.{ledger}
use Rattle.record.specs.History.{kept, analysis_of}
use Rattle.record.specs.Reads.{read}
use Rattle.record.specs.Views.{view}
use Rattle.record.proofs.Analysing.{ground, setting_of, finding_of, captures_of_uses, captures_found, full_is, roomy_is}
use Rattle.record.proofs.Entries.{view_entered, enters_err, enters_ok}
use Rattle.record.proofs.records.Record.analyse_as.Goals as goal

pub returns-in_err-count-clause-enters : goal.returns-in_err-count-clause-enters
returns-in_err-count-clause-enters g c =
    let a = c.args.self.now in
    let means = g.W.World.means in
    let rows = length c.args.uses.now in
    let closure = c.args.task.closure in
    let table = c.find.new.uses in
    let found = c.in_ok-found.found in
    let e = c.in_err-count.field-0.0 in
    let is : c.from_residual-in_err-count.result ≡ Err e = search rules in
    let s = setting_of means a rows closure table found in
    let finds = c.find.ensures.finds ∙ ap (shown s table) c.in_ok-found.was in
    let fills = c.filled-filled.ensures.is in
    let full = full_is means a rows closure table found _ c.requires.preset finds _ fills c.write.new.self c.write.result c.write.ensures e c.in_err-count.was in
    let analysis = analysis_of (ground means a rows closure table found) (view a) closure in
    let same : c.write.new.self.rows.now ≡ a.table.rows.now = c.in_err-count.ensures.leaves in
    enters_err (view a) _ closure analysis c.from_residual-in_err-count.result e full is (λ p. kept_by (read (same p)) (ledger a.closures))

pub returns-clause-enters : goal.returns-clause-enters
returns-clause-enters g c =
    let a = c.args.self.now in
    let means = g.W.World.means in
    let rows = length c.args.uses.now in
    let closure = c.args.task.closure in
    let table = c.find.new.uses in
    let found = c.in_ok-found.found in
    let s = setting_of means a rows closure table found in
    let finds = c.find.ensures.finds ∙ ap (shown s table) c.in_ok-found.was in
    let b = c.write.new.self in
    let n = c.in_ok-count.count in
    let fills = c.filled-filled.ensures.is in
    let h = roomy_is means a rows closure table found _ c.requires.preset finds _ fills b c.write.result c.write.ensures n c.in_ok-count.was in
    let f = finding_of means a rows closure table found in
    let cs = captures_of_uses means a rows closure table found in
    let laid : Written cs a.closures.filled a.table.rows.now b.rows.now = subst (λ (k : ℕ). Written cs k a.table.rows.now b.rows.now) fills c.in_ok-count.ensures.leaves in
    let reads : read b.rows.now (record { kind = found.kind; from = a.closures.filled; count = n; copies = found.copies }) ≡ kept f =
    (λ p. record { kind = found.kind; captures = map captured (take (h.1 p) (drop a.closures.filled b.rows.now)); copies = found.copies })
    ∙ (λ p. record { kind = found.kind; captures = (laid.rows ∙ captures_found means a rows closure table found) p; copies = found.copies }) in
    let analysis = analysis_of (ground means a rows closure table found) (view a) closure in
    let entered = view_entered a.table.rows.now b.rows.now a.closures.filled laid.front a.closures (ledger c.enter.new.self) closure _ (kept f) refl c.enter.ensures.ledger reads in
    enters_ok (view a) _ closure analysis (Ok tt) f h.0 refl entered
