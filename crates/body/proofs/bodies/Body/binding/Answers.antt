use Rattle.std.proofs.Common.{Some, sym, ap, ◌∙◌, option_copied}
use Rattle.std.specs.Option.{option_map}
use Rattle.body.specs.Answers.{view_bindings}
use Rattle.body.proofs.Answering.{binding_from, binding_found}
use Rattle.body.proofs.bodies.Body.binding.Goals as goal

pub returns-in_err-payload : goal.returns-in_err-payload
returns-in_err-payload c =
    ap view_bindings c.from_residual.ensures ∙ ap (λ o. option_map binding_from (option_copied o)) (sym c.in_err-payload.was)
    ∙ binding_found c.args.self.now c.args.number c.payload.result _ _ c.type_count-before.ensures c.binding_count.ensures c.payload.ensures

pub returns : goal.returns
returns c =
    (λ i. Some (record { type = c.number_at.ensures i; owner = c.byte_at.ensures i; name = c.behind.ensures i })) ∙ ap (λ o. option_map binding_from (option_copied o)) (sym c.in_ok-payload.was)
    ∙ binding_found c.args.self.now c.args.number c.payload.result _ _ c.type_count-before.ensures c.binding_count.ensures c.payload.ensures
