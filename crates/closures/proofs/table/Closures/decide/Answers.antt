use Rattle.std.proofs.Common.{suc, ◌-◌, refl, sym, ap, ◌∙◌, subst, arith}
use lib.Seq.{set-get_or}
use Rattle.waits.specs.Table.{waits_by}
use Rattle.waits.proofs.Tables.{inside_added}
use Rattle.closures.specs.declared.states.State.TheVariants.{Open}
use Rattle.closures.specs.Requests.{subject, Named}
use Rattle.closures.proofs.Resting.{closure_parts}
use Rattle.closures.proofs.Staging.{below_preset, sums_same}
use Rattle.closures.proofs.Verdicts.{not_analysed, none_at, preset_at, added_ok, depend_at}
use Rattle.closures.proofs.table.Closures.decide.Goals as goal

pub invariant_of-self-in_default-Preset : goal.invariant_of-self-in_default-Preset
invariant_of-self-in_default-Preset c =
    let t = c.args.self.now in
    let left = not_analysed _ c.in_default-Preset.not-Analysed-0 in record {
      few = t.few;
      inside = t.inside;
      below = below_preset t.states _ _ _ (omega arith) c.at.view_is t.filled refl t.below;
      sums = t.sums ∙ sums_same t.states _ _ _ (omega arith) c.at.view_is t.count (sym (none_at t.count t.states (waits_by t.waits) _ _ (omega arith) c.at.view_is left));
    }

pub invariant_of-self-in_default-Depend : goal.invariant_of-self-in_default-Depend
invariant_of-self-in_default-Depend c =
    let t = c.args.self.now in
    let named = subst (Named t.count) c.in_default-Depend.is-1 c.in_ok-at.ensures.1 in
    let first = closure_parts t.count _ named.0 in
    let second = closure_parts t.count _ named.1 in
    let same = set-get_or t.states c.at.inside.0 Open in
    record {
      few = t.few;
      inside = inside_added t.waits c.add.new.self _ _ t.count c.add.result c.add.ensures (omega (arith, c.in_ok-at.ensures.0, ap subject c.in_default-Depend.is-1, first.1)) (omega arith) t.inside;
      below = rw same t.below;
      sums = rw same t.sums;
    }

pub returns-in_default-Preset-clause-decided : goal.returns-in_default-Preset-clause-decided
returns-in_default-Preset-clause-decided c =
    let t = c.args.self.now in
    let s = c.in_ok-at.ensures in
    let q = c.in_default-Preset.is-1 in
    let left = not_analysed _ c.in_default-Preset.not-Analysed-0 in
    preset_at t.count t.states (waits_by t.waits) _ _ (omega arith) c.at.view_is left _ s.0 s.1 _ _ q

pub returns-in_ok-map_err-in_default-Depend-clause-decided : goal.returns-in_ok-map_err-in_default-Depend-clause-decided
returns-in_ok-map_err-in_default-Depend-clause-decided c =
    let t = c.args.self.now in
    let w = c.add.new.self in
    let s = c.in_ok-at.ensures in
    let q = c.in_default-Depend.is-1 in
    let d = c.in_default-Depend.d in
    let left = not_analysed _ c.in_default-Depend.not-Analysed-0 in
    let second = closure_parts t.count _ (subst (Named t.count) q s.1).1 in
    let was = c.in_ok-map_err-in_default-Depend.was in
    let added = added_ok t.waits w _ _ c.add.result c.map_err.result _ _ c.map_err.ensures.cases was c.add.ensures in
    depend_at t.count t.states (waits_by t.waits) _ _ (omega arith) c.at.view_is left _ s.0 s.1 _ _ (suc (d - 1)) (waits_by w) q
    (omega arith) added.0 added.1
