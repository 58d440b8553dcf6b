use Rattle.std.proofs.Common.{sym, ◌∙◌, arith}
use Rattle.narrow.proofs.Walked.{last_lt}
use Rattle.narrow.proofs.walks.to_shared.Goals as goal

pub slice_bounds-led-end : goal.slice_bounds-led-end
slice_bounds-led-end g c = let lt = last_lt c.args.path.now c.in-Some.k (sym c.last_deref_of.ensures ∙ c.in-Some.is) in omega arith
