use Rattle.std.proofs.Common.{Some, sym, ap, ◌∙◌, option_copied}
use Rattle.std.specs.Option.{option_map}
use Rattle.node.specs.Nodes.{node_of}
use Rattle.body.specs.Answers.{view_nodes}
use Rattle.body.proofs.Answering.{node_found}
use Rattle.body.proofs.bodies.Body.node.Goals as goal

pub returns-in_err-payload : goal.returns-in_err-payload
returns-in_err-payload c =
    ap view_nodes c.from_residual.ensures ∙ ap (λ o. option_map node_of (option_copied o)) (sym c.in_err-payload.was)
    ∙ node_found c.args.self.now c.args.number c.payload.result _ _ _ c.type_count.ensures c.binding_count.ensures c.node_count.ensures c.payload.ensures

pub returns : goal.returns
returns c =
    ap Some c.of.ensures ∙ ap (λ o. option_map node_of (option_copied o)) (sym c.in_ok-payload.was)
    ∙ node_found c.args.self.now c.args.number c.payload.result _ _ _ c.type_count.ensures c.binding_count.ensures c.node_count.ensures c.payload.ensures
