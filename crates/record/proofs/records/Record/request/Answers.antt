use Rattle.std.proofs.Common.{◌≡◌, ℕ, length, Err, sym, refl, ap, ◌∙◌, subst, inl, inr, rules}
use Rattle.closures.specs.declared.requests.Request.{Request}
use Rattle.closures.specs.declared.requests.Request.TheVariants.{Analyse}
use Rattle.closures.specs.declared.states.Analysis.{Analysis}
use Rattle.closures.specs.Ledger.{Ledger, kept_by, is_analysed, preset_in}
use Rattle.closures.specs.Requests.{Fits, Granted, Refused, granted}
use Rattle.closures.specs.Views.{ledger}
use Rattle.record.specs.declared.faults.RecordFault.TheVariants as fault
use Rattle.record.specs.History.{Kept, kept, entered, Answers}
use Rattle.record.specs.Reads.{read}
use Rattle.record.specs.Views.{grounds}
use Rattle.record.proofs.Agreeing.{done_kept, preset_kept, granted_same, task_kept, granted_to, refused_to, done_agree, waits_agree, task_analyse, nothing_answers, analyse_step, refusal_is, refusal_by}
use Rattle.record.proofs.records.Record.request.Goals as goal

pub returns-in_err-task : goal.returns-in_err-task
returns-in_err-task g c =
    let a = c.args.self.now in
    let gr = grounds g.W.World.means a (length c.args.uses.now) in
    let reads = read a.table.rows.now in
    let e = c.in_err-task.field-0.0 in
    let d = c.in_err-task.ensures.decided in
    let is : c.from_residual.result ≡ Err (fault.Closure e) = search rules in
    let fills : c.decide.new.self.filled ≡ a.closures.filled = c.decide.ensures.filled in
    record {
      answers = λ h agree. (
        h,
        inl (e, subst (λ (n : ℕ). Refused n h c.args.request e) a.counts (refused_to _ (ledger a.closures) h (done_agree reads kept (ledger a.closures) h agree) (waits_agree reads kept (ledger a.closures) h agree) c.args.request e d.0), is, refl),
        ap (kept_by reads) d.1 ∙ agree,
      );
      stays = search rules;
      unwritten = refusal_is c.from_residual.result (fault.Closure e) _ is (refl, fills);
    }

pub analyse_as-requires : goal.analyse_as-requires
analyse_as-requires g c =
    let a = c.args.self.now in
    let l = ledger a.closures in
    let reads = read a.table.rows.now in
    let task = c.in-Some.task in
    let d = c.in_ok-task.ensures.decided in
    let t = task_analyse l c.args.request task (sym d.1 ∙ c.in-Some.is) in
    let fits : Fits a.closures.count l (Analyse task.closure) = subst (Fits a.closures.count l) t.0 d.0.0 in
    let same : ledger c.decide.new.self ≡ l = d.2 ∙ ap (granted l) t.0 in
    let stage = (ledger c.decide.new.self).stage task.closure in
    record {
      named = search rules;
      left = done_kept reads stage ∙ ap (λ (m : Ledger Analysis). is_analysed (m.stage task.closure)) same ∙ fits.1;
      preset = t.1 ∙ ap (λ (m : Ledger Analysis). preset_in (m.stage task.closure)) (sym same) ∙ sym (preset_kept reads stage);
    }

pub returns-in-None : goal.returns-in-None
returns-in-None g c =
    let a = c.args.self.now in
    let gr = grounds g.W.World.means a (length c.args.uses.now) in
    let reads = read a.table.rows.now in
    let l = ledger a.closures in
    let d = c.in_ok-task.ensures.decided in
    let fills : c.decide.new.self.filled ≡ a.closures.filled = c.decide.ensures.filled in
    record {
      answers = λ h agree. (
        granted h c.args.request,
        inr (
          subst (λ (n : ℕ). Granted n h c.args.request) a.counts (granted_to _ l h (done_agree reads kept l h agree) (waits_agree reads kept l h agree) c.args.request d.0),
          nothing_answers gr (kept_by reads l) h c.args.request (task_kept reads l c.args.request ∙ sym d.1 ∙ c.in-None.is),
        ),
        ap (kept_by reads) d.2 ∙ granted_same reads l c.args.request ∙ ap (λ (v : Ledger Kept). granted v c.args.request) agree ∙ sym (granted_same kept h c.args.request),
      );
      stays = search rules;
      unwritten = tt;
    }

pub returns-in-Some : goal.returns-in-Some
returns-in-Some g c =
    let a = c.args.self.now in
    let gr = grounds g.W.World.means a (length c.args.uses.now) in
    let reads = read a.table.rows.now in
    let l = ledger a.closures in
    let d = c.in_ok-task.ensures.decided in
    let t = task_analyse l c.args.request c.in-Some.task (sym d.1 ∙ c.in-Some.is) in
    let same : ledger c.decide.new.self ≡ l = d.2 ∙ ap (granted l) t.0 in
    let fills : c.decide.new.self.filled ≡ a.closures.filled = c.decide.ensures.filled in
    let s = c.analyse_as.ensures.stays in
    record {
      answers = λ h agree.
          let step = analyse_step gr h c.in-Some.task.closure _ _ c.analyse_as.result (ap (kept_by reads) same ∙ agree) c.analyse_as.ensures.enters in (
            step.0,
            inr (
              subst (λ (n : ℕ). Granted n h c.args.request) a.counts (granted_to _ l h (done_agree reads kept l h agree) (waits_agree reads kept l h agree) c.args.request d.0),
              subst (λ (q : Request). Answers gr (entered gr h q) h c.analyse_as.result step.0) (sym t.0) step.1,
            ),
            step.2,
          );
      stays = search rules;
      unwritten = refusal_by c.analyse_as.result _ _ (λ p. (p.0, p.1 ∙ fills)) c.analyse_as.ensures.unwritten;
    }
