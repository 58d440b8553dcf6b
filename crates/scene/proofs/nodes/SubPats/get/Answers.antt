use Rattle.std.proofs.Common.{ap, ◌∙◌}
use Rattle.node.specs.declared.lists.FieldPat.{FieldPat}
use Rattle.scene.proofs.Under.{field_pat_at}
use Rattle.scene.proofs.nodes.SubPats.get.Goals as goal

pub returns-in-Named : goal.returns-in-Named
returns-in-Named c = rw c.in-Named.is (ap (λ (f : FieldPat). f.pat) c.get-in-Named.ensures ∙ field_pat_at _ c.args.at)
