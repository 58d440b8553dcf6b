use Rattle.std.proofs.Common.{length, sym, subst}
use Rattle.record.specs.declared.calls.Call.{Call}
use Rattle.record.specs.History.{Called}
use Rattle.record.specs.Steps.{GoesOn}
use Rattle.record.specs.Views.{grounds}
use Rattle.record.proofs.records.Record.call.Goals as goal

pub returns-in-One-clause-answers : goal.returns-in-One-clause-answers
returns-in-One-clause-answers g c =
    let a = c.args.self.now in
    subst (λ (q : Call). GoesOn (λ h m. Called (grounds g.W.World.means a (length c.args.uses.now)) h q c.request.result m) a c.request.new.self) (sym c.in-One.is) c.request.ensures.answers

pub returns-in-InferAll-clause-answers : goal.returns-in-InferAll-clause-answers
returns-in-InferAll-clause-answers g c =
    let a = c.args.self.now in
    subst (λ (q : Call). GoesOn (λ h m. Called (grounds g.W.World.means a (length c.args.uses.now)) h q c.infer_all.result m) a c.infer_all.new.self) (sym c.in-InferAll.is) c.infer_all.ensures.answers
