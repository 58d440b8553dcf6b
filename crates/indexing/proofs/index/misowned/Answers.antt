use Rattle.std.proofs.Common.{◌≡◌, ltb, sym, ap, ◌∙◌, rules, tests}
use Rattle.std.specs.Option.{option_map}
use Rattle.std.proofs.lemmas.Iterator.{YieldsList-from_slice}
use Rattle.std.proofs.lemmas.Iterator.Search.{find_from_yields_List}
use Rattle.indexing.specs.declared.rows.Row.{Row}
use Rattle.indexing.specs.Opening.{misowned}
use Rattle.indexing.proofs.Ending.{misowned_is}
use Rattle.indexing.proofs.index.misowned.Goals as goal
use Rattle.indexing.proofs.index.misowned.Goals.{After-find}

module _ (c : After-find) where
  -- the answer to what the call found
  found : option_map (λ (r : Row). r.offset) (option_map (λ x. x.now) c.find.result) ≡ misowned c.args.closures c.args.bindings.now
  found =
      ap (option_map (λ (r : Row). r.offset))
      (find_from_yields_List (λ (r : Row). ltb c.args.closures r.home) _ _ c.find.result c.find.ensures.ran (YieldsList-from_slice c.args.bindings.now cc) (λ x b q k. search (rules, tests)))
      ∙ misowned_is c.args.closures c.args.bindings.now

pub returns-in_err-row : goal.returns-in_err-row
returns-in_err-row c =
    c.from_residual.ensures ∙ ap (λ o. option_map (λ (r : Row). r.offset) (option_map (λ x. x.now) o)) (sym c.in_err-row.was) ∙ found (goal.at.returns-in_err-row c).After-find

pub returns : goal.returns
returns c = ap (λ o. option_map (λ (r : Row). r.offset) (option_map (λ x. x.now) o)) (sym c.in_ok-row.was) ∙ found (goal.at.returns c).After-find
