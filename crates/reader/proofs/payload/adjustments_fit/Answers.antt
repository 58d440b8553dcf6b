use Rattle.std.proofs.Common.{◌≡◌, ◌+◌, ◌-◌, ◌<◌, drop, ap, ◌∙◌, arith}
use Rattle.std.proofs.lemmas.List.{take_rest}
use Rattle.reader.specs.Payloads.{adjustments_fit}
use Rattle.reader.proofs.Payloading.{adjustments_on}
use Rattle.reader.proofs.payload.adjustments_fit.Goals as goal

pub loop-done-preserved : goal.loop-done-preserved
loop-done-preserved c =
    let more : 0 < c.args.count - c.loop-done._done = omega arith in
    let less : c.args.count - (c.loop-done._done + 1) ≡ c.args.count - c.loop-done._done - 1 = omega arith in
    ap (adjustments_fit (c.args.count - (c.loop-done._done + 1))) (take_rest c.loop-done.rest.now 3)
    ∙ ap (λ k. adjustments_fit k (drop 3 c.loop-done.rest.now)) less
    ∙ adjustments_on _ c.loop-done.rest.now more c.in-len3-up.len_at_least c.if-code-gt6.false ∙ c.loop-done.invariant
