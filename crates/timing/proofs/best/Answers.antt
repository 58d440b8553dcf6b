use Rattle.std.proofs.Common.{◌≡◌, ◌∷◌, [], ◌++◌, Bool, true, false, List, sym, refl, ◌∙◌, arith, rules, of_calls, length-append}
use Rattle.std.specs.List.{list_any}
use Rattle.std.proofs.lemmas.Bool.{false≢true}
use Rattle.std.proofs.lemmas.Fn.{FoldsTo-push}
use Rattle.timing.proofs.best.Goals.{then-counts, else-counts}
use Rattle.timing.proofs.best.Goals as goal

-- where none of the answers counts, none before the last does
none_before : (bs : List Bool) (b : Bool) → list_any (λ x. x) (bs ++ b ∷ []) ≡ false → (list_any (λ x. x) bs ≡ false) × (b ≡ false)
none_before [] true e = absurd (false≢true (sym e))
none_before [] false e = (refl, refl)
none_before (true ∷ bs) b e = absurd (false≢true (sym e))
none_before (false ∷ bs) b e = none_before bs b e

pub loop-turn-preserved : goal.loop-turn-preserved
loop-turn-preserved g c =
    let i = c.loop-turn.invariant.1 in
    let now = c.run-counts.result in (
      search (rules, of_calls),
      (
        i.0 ++ now ∷ [],
        FoldsTo-push (goal.F-step g) c.args.run i.0 c.loop-turn.run now c.run-counts.new.self i.1 c.run-counts.ensures,
        omega (arith, i.2, length-append i.0 (now ∷ [])),
        λ e. let p = none_before i.0 now e in elim c.if-counts.branch [ then-counts w ↦ absurd (false≢true (sym p.1 ∙ w.if-counts.true)) | else-counts w ↦ w.least-is ∙ i.3 p.0 ],
      ),
    )
