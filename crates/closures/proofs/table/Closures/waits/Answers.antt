use Rattle.std.proofs.Common.{◌≡◌, ℕ, Bool, cond, Ok, Err, Result, sym, ap, ◌∙◌, rules}
use Rattle.closures.specs.declared.faults.ClosureFault.{ClosureFault}
use Rattle.closures.specs.declared.faults.ClosureFault.TheVariants.{NoClosure}
use Rattle.waits.specs.Words.{how_many}
use Rattle.waits.specs.Table.{waits_by}
use Rattle.closures.proofs.Verdicts.{counted}
use Rattle.closures.proofs.table.Closures.waits.Goals as goal

pub returns : goal.returns
returns c =
    let t = c.args.self.now in
    let s = c.in_ok-slot.ensures in
    let all : c.len.result ≡ how_many (waits_by t.waits c.args.c) t.count =
    c.len.ensures ∙ (λ p. how_many (λ d. (c.of.ensures d ∙ ap (λ (x : ℕ). waits_by t.waits x d) s.0) p) 64) ∙ counted (waits_by t.waits) c.args.c t.count 64 t.few t.inside in
    let answer : Bool → Result ℕ ClosureFault = λ b. cond b (Ok (how_many (waits_by t.waits c.args.c) t.count)) (Err (NoClosure c.args.c)) in
    let is = (λ p. Ok (all p)) ∙ sym (ap answer s.1) in
    search (rules, is)
