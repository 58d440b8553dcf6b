use Rattle.std.proofs.Common.{◌+◌, ◌*◌}
use Rattle.reader.specs.Numbers.{numbers}
use Rattle.node.specs.Lists.{pairs, triples}
use Rattle.place.specs.Places.{spot}
use Rattle.scene.specs.Below.{ListBelow, FieldsBelow, ArmsBelow}
use Rattle.scene.specs.Parts.{view_subs}
use Rattle.walk.specs.Walks.{doing, consume_exprs, walk_arms, consume_fields, consume_pats, assign_pats}
use Rattle.walk.proofs.Steps.{GoesOn}
use Rattle.walk.proofs.exprs.+walk.Given as goal

-- A node's number weighs 2 ^ 67, so that its adjustments, of which there are fewer than 2 ^ 64, come between two numbers.
abbrev pub decreases-use_expr : goal.decreases-use_expr
decreases-use_expr g l = l.n * 147573952589676412928 + 73786976294838206464 + 2

abbrev pub decreases-assign_at : goal.decreases-assign_at
decreases-assign_at g l = l.n * 147573952589676412928 + 73786976294838206464 + 2

abbrev pub decreases-walk_expr : goal.decreases-walk_expr
decreases-walk_expr g l = l.n * 147573952589676412928 + 73786976294838206464 + 1

abbrev pub decreases-consume_with_pat : goal.decreases-consume_with_pat
decreases-consume_with_pat g l = l.n * 147573952589676412928 + 73786976294838206464 + 1

abbrev pub decreases-assign_pat : goal.decreases-assign_pat
decreases-assign_pat g l = l.n * 147573952589676412928 + 73786976294838206464 + 1

abbrev pub decreases-adjusted : goal.decreases-adjusted
decreases-adjusted g l = l.n * 147573952589676412928 + l.count * 2 + 32

abbrev pub decreases-walk_form : goal.decreases-walk_form
decreases-walk_form g l = l.n * 147573952589676412928 + 20

abbrev pub decreases-take_form : goal.decreases-take_form
decreases-take_form g l = l.n * 147573952589676412928 + 20

abbrev pub decreases-assign_form : goal.decreases-assign_form
decreases-assign_form g l = l.n * 147573952589676412928 + 20

abbrev pub decreases-walk_let : goal.decreases-walk_let
decreases-walk_let g l = l.n * 147573952589676412928 + 10

abbrev pub decreases-walk_match : goal.decreases-walk_match
decreases-walk_match g l = l.n * 147573952589676412928 + 10

abbrev pub decreases-take_fields : goal.decreases-take_fields
decreases-take_fields g l = l.n * 147573952589676412928 + 10

abbrev pub decreases-walk_arms : goal.decreases-walk_arms
decreases-walk_arms g l = l.n * 147573952589676412928 + 5

abbrev pub decreases-if_some : goal.decreases-if_some
decreases-if_some g l = l.n * 147573952589676412928 + 4

abbrev pub decreases-let_value : goal.decreases-let_value
decreases-let_value g l = l.n * 147573952589676412928 + 4

abbrev pub decreases-bind : goal.decreases-bind
decreases-bind g l = l.n * 147573952589676412928 + 4

abbrev pub decreases-assign : goal.decreases-assign
decreases-assign g l = l.n * 147573952589676412928 + 4

abbrev pub decreases-walk_deref : goal.decreases-walk_deref
decreases-walk_deref g l = l.n * 147573952589676412928 + 4

abbrev pub decreases-consume_all : goal.decreases-consume_all
decreases-consume_all g l = l.n * 147573952589676412928 + 4

abbrev pub decreases-take_field : goal.decreases-take_field
decreases-take_field g l = l.n * 147573952589676412928 + 4

abbrev pub decreases-take_pats : goal.decreases-take_pats
decreases-take_pats g l = l.n * 147573952589676412928 + 4

abbrev pub decreases-take_expr : goal.decreases-take_expr
decreases-take_expr g l = l.n * 147573952589676412928 + 4

abbrev pub invariant-consume_all-loop-child : goal.invariant-consume_all-loop-child
invariant-consume_all-loop-child g l =
    GoesOn g.W.World.means g.I.Inner.tells (λ s. consume_exprs s (doing s) (numbers l.children.bytes.now)) (λ s. consume_exprs s (doing s) (numbers l.child-iterator.bytes.now)) l.initial.recorder l.initial.mark l.recorder l.mark × ListBelow l.n (numbers l.child-iterator.bytes.now)

abbrev pub invariant-walk_arms-loop-arm : goal.invariant-walk_arms-loop-arm
invariant-walk_arms-loop-arm g l =
    GoesOn g.W.World.means g.I.Inner.tells (λ s. walk_arms s (doing s) (triples (numbers l.arms.bytes.now))) (λ s. walk_arms s (doing s) (triples (numbers l.arm-iterator.bytes.now))) l.initial.recorder l.initial.mark l.recorder l.mark × ArmsBelow l.n (triples (numbers l.arm-iterator.bytes.now))

abbrev pub invariant-take_fields-loop-field : goal.invariant-take_fields-loop-field
invariant-take_fields-loop-field g l =
    GoesOn g.W.World.means g.I.Inner.tells (λ s. consume_fields s (doing s) (spot l.place) (pairs (numbers l.fields.bytes.now))) (λ s. consume_fields s (doing s) (spot l.place) (pairs (numbers l.field-iterator.bytes.now))) l.initial.recorder l.initial.mark l.recorder l.mark × FieldsBelow l.n (pairs (numbers l.field-iterator.bytes.now))

abbrev pub invariant-take_pats-loop-pat : goal.invariant-take_pats-loop-pat
invariant-take_pats-loop-pat g l =
    GoesOn g.W.World.means g.I.Inner.tells (λ s. consume_pats s (doing s) (spot l.place) (numbers l.pats.bytes.now)) (λ s. consume_pats s (doing s) (spot l.place) (numbers l.pat-iterator.bytes.now)) l.initial.recorder l.initial.mark l.recorder l.mark × ListBelow l.n (numbers l.pat-iterator.bytes.now)

abbrev pub invariant-assign_pat-loop-sub : goal.invariant-assign_pat-loop-sub
invariant-assign_pat-loop-sub g l =
    GoesOn g.W.World.means g.I.Inner.tells (λ s. assign_pats s (doing s) (view_subs l.initial.sub-iterator)) (λ s. assign_pats s (doing s) (view_subs l.sub-iterator)) l.initial.recorder l.initial.mark l.recorder l.mark × ListBelow l.n (view_subs l.sub-iterator)
