use Rattle.std.proofs.Common.{Some, sym, ap, ◌∙◌, option_copied}
use Rattle.std.specs.Option.{option_map}
use Rattle.reader.specs.Types.{type_of}
use Rattle.body.specs.Answers.{view_types}
use Rattle.body.proofs.Answering.{type_found}
use Rattle.body.proofs.bodies.Body.type_record.Goals as goal

pub returns-in_err-payload : goal.returns-in_err-payload
returns-in_err-payload c =
    ap view_types c.from_residual.ensures ∙ ap (λ o. option_map type_of (option_copied o)) (sym c.in_err-payload.was)
    ∙ type_found c.args.self.now c.args.number c.payload.result _ c.type_count.ensures c.payload.ensures

pub returns : goal.returns
returns c =
    ap Some c.of.ensures ∙ ap (λ o. option_map type_of (option_copied o)) (sym c.in_ok-payload.was)
    ∙ type_found c.args.self.now c.args.number c.payload.result _ c.type_count.ensures c.payload.ensures
