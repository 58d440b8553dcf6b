use Rattle.std.proofs.Common.{◌==◌, unwrap_or, length, ap, ◌∙◌, rules, tests, arith}
use Rattle.std.proofs.lemmas.Iterator.{YieldsList-from_slice}
use Rattle.std.proofs.lemmas.Iterator.Search.{position_from_yields_List}
use Rattle.narrow.proofs.Walked.{until_is}
use Rattle.narrow.proofs.walks.to_deref.Goals as goal

pub returns : goal.returns
returns c =
    let path = c.args.path.now in
    let first = position_from_yields_List (λ s. s == 0) _ _ c.position.result c.position.ensures.ran (YieldsList-from_slice path (cc)) (λ x b q k. search (rules, tests)) in
    let is = c.unwrap_or.ensures ∙ ap (λ o. unwrap_or o (length path)) first ∙ until_is path in
    omega (arith, is)
