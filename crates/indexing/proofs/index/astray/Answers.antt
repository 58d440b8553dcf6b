use Rattle.std.proofs.Common.{◌≡◌, ℕ, ◌+◌, sym, ap, ◌∙◌, rules, tests}
use Rattle.std.specs.Option.{option_map}
use Rattle.std.proofs.lemmas.Iterator.{YieldsList-from_slice}
use Rattle.std.proofs.lemmas.Iterator.Consumers.{YieldsList-from_enumerate}
use Rattle.std.proofs.lemmas.Iterator.Search.{find_from_yields_List}
use Rattle.indexing.specs.declared.rows.Row.{Row}
use Rattle.indexing.specs.Opening.{has_strayed, astray}
use Rattle.indexing.proofs.Ending.{astray_is}
use Rattle.indexing.proofs.index.astray.Goals as goal
use Rattle.indexing.proofs.index.astray.Goals.{After-find}

module _ (c : After-find) where
  -- the answer to what the call found
  found : option_map (λ (p : ℕ × Row). p.1.offset) (option_map (λ p. (p.0, p.1.now)) c.find.result) ≡ astray c.args.marks.now 1 c.args.nodes.now
  found =
      ap (option_map (λ (p : ℕ × Row). p.1.offset))
      (find_from_yields_List (λ (p : ℕ × Row). has_strayed c.args.marks.now (p.0 + 1) p.1) _ _ c.find.result c.find.ensures.ran
      (YieldsList-from_enumerate (YieldsList-from_slice c.args.nodes.now cc) cc) (λ x b q k. search (rules, tests)))
      ∙ astray_is c.args.marks.now 0 c.args.nodes.now

pub returns-in_err-row : goal.returns-in_err-row
returns-in_err-row c =
    c.from_residual.ensures ∙ ap (λ o. option_map (λ (p : ℕ × Row). p.1.offset) (option_map (λ p. (p.0, p.1.now)) o)) (sym c.in_err-row.was)
    ∙ found (goal.at.returns-in_err-row c).After-find

pub returns : goal.returns
returns c = ap (λ o. option_map (λ (p : ℕ × Row). p.1.offset) (option_map (λ p. (p.0, p.1.now)) o)) (sym c.in_ok-row.was) ∙ found (goal.at.returns c).After-find
