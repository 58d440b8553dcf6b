use Rattle.std.proofs.Common.{◌≡◌, length, Err, Result, sym, refl, subst, rules}
use Rattle.record.specs.declared.faults.RecordFault.{RecordFault}
use Rattle.record.specs.History.{Inferred}
use Rattle.record.specs.Steps.{GoesOn}
use Rattle.record.specs.Views.{grounds}
use Rattle.record.proofs.Turning.{turn_less, turned_last, turned_more, turned_down}
use Rattle.record.proofs.records.Record.infer_all.Goals as goal

pub loop-c-smaller : goal.loop-c-smaller
loop-c-smaller g c =
    turn_less g.W.World.means c.loop-c.self c.request.new.self (length c.loop-c.uses) c.in-Some.c c.in_ok-request.ensures.stays c.in_ok-request.ensures.answers

pub loop-c-preserved : goal.loop-c-preserved
loop-c-preserved g c =
    turned_more g.W.World.means (length c.args.uses.now) c.args.self.now c.loop-c.self c.loop-c.invariant c.request.new.self (length c.loop-c.uses) c.in-Some.c c.loop-c.auto.uses
    (sym c.in-Some.ensures.is) c.in_ok-request.ensures.stays c.in_ok-request.ensures.answers

pub returns-in_err-request-clause-answers : goal.returns-in_err-request-clause-answers
returns-in_err-request-clause-answers g c =
    let a = c.args.self.now in
    let means = g.W.World.means in
    let n = length c.args.uses.now in
    let e = c.in_err-request.field-0.0 in
    let is : c.from_residual.result ≡ Err e = search rules in
    let next = sym c.in-Some.ensures.is in
    let stops = turned_down means n a c.loop-c.self c.loop-c.invariant c.request.new.self (length c.loop-c.uses) c.in-Some.c c.loop-c.auto.uses next e c.in_err-request.ensures.answers in
    subst (λ (r : Result (Unit {0}) RecordFault). GoesOn (λ h m. Inferred (grounds means a n) h r m) a c.request.new.self) (sym is) stops

pub returns-clause-answers : goal.returns-clause-answers
returns-clause-answers g c =
    turned_last g.W.World.means (length c.args.uses.now) c.args.self.now c.loop-c.self c.loop-c.invariant (c.in_default.ensures.all refl)
