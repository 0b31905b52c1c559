-- Each arm of the recursion appends the normal form of its node.
use Rattle.std.proofs.Common.{ap, arith}
use Rattle.formula.specs.Held.{held}
use Rattle.formula.specs.Tree.{size}
use Rattle.formula.proofs.Appending.{top_as, more_as, room_left, room_right, room_top, top_both, more_both}
use Rattle.formula.proofs.Arms.{leaf_is, not_is, arm_and, arm_or, arm_then}
use Rattle.formula.proofs.normal.making.+append.Goals as goal

pub push-requires : goal.push-requires
push-requires t c =
    let e = leaf_is c.args.table.now.nodes.now c.args.table.now.first c.args.at c.requires.within c.args.positive c.in-Leaf.pair c.in-Leaf.is in
    let one = ap size e in
    (omega arith, omega arith)

pub returns-in-Leaf : goal.returns-in-Leaf
returns-in-Leaf t c =
    let e = leaf_is c.args.table.now.nodes.now c.args.table.now.first c.args.at c.requires.within c.args.positive c.in-Leaf.pair c.in-Leaf.is in
    let old = held c.args.out.now in
    record { top = top_as old _ _ e c.push.result c.push.ensures.at; more = more_as old _ _ e (held c.push.new.self) c.push.ensures.more }

pub append-requires : goal.append-requires
append-requires t c =
    let e = not_is c.args.table.now.nodes.now c.args.table.now.first c.args.at c.requires.within c.args.positive c.in-Not.place c.in-Not.part c.in-Not.is in
    let s = ap size e.0 in
    (omega arith, (omega arith, omega arith))

pub returns-in-Not : goal.returns-in-Not
returns-in-Not t c =
    let e = not_is c.args.table.now.nodes.now c.args.table.now.first c.args.at c.requires.within c.args.positive c.in-Not.place c.in-Not.part c.in-Not.is in
    let old = held c.args.out.now in
    record { top = top_as old _ _ e.0 c.append.result c.append.ensures.top; more = more_as old _ _ e.0 (held c.append.new.out) c.append.ensures.more }

pub append-x-requires : goal.append-x-requires
append-x-requires t c =
    let a = arm_and c.args.table.now.nodes.now c.args.table.now.first c.args.at c.requires.within c.args.positive c.in-And.place c.in-And.left c.in-And.right c.in-And.is in
    (omega arith, (omega arith, room_left _ _ _ _ _ a.is (held c.args.out.now) c.requires.room))

pub append-y-requires : goal.append-y-requires
append-y-requires t c =
    let a = arm_and c.args.table.now.nodes.now c.args.table.now.first c.args.at c.requires.within c.args.positive c.in-And.place c.in-And.left c.in-And.right c.in-And.is in
    (omega arith, (omega arith, room_right _ _ _ _ _ a.is (held c.args.out.now) c.requires.room (held c.append-x.new.out) c.append-x.ensures.more))

pub push-requires-in-And : goal.push-requires-in-And
push-requires-in-And t c =
    let a = arm_and c.args.table.now.nodes.now c.args.table.now.first c.args.at c.requires.within c.args.positive c.in-And.place c.in-And.left c.in-And.right c.in-And.is in
    (omega arith, room_top _ _ _ _ _ a.is (held c.args.out.now) c.requires.room (held c.append-x.new.out) c.append-x.ensures.more (held c.append-y.new.out) c.append-y.ensures.more)

pub returns-in-And : goal.returns-in-And
returns-in-And t c =
    let a = arm_and c.args.table.now.nodes.now c.args.table.now.first c.args.at c.requires.within c.args.positive c.in-And.place c.in-And.left c.in-And.right c.in-And.is in
    record {
      top =
          top_both _ _ _ _ _ a.is (held c.args.out.now) c.requires.room (held c.append-x.new.out) c.append-x.ensures.more (held c.append-y.new.out) c.append-y.ensures.more
          c.append-x.result c.append-y.result c.push-in-And.result c.join.result (held c.push-in-And.new.self) c.append-x.ensures.top c.append-y.ensures.top c.join.ensures c.push-in-And.ensures.at;
      more =
          more_both _ _ _ _ _ a.is (held c.args.out.now) c.requires.room (held c.append-x.new.out) c.append-x.ensures.more (held c.append-y.new.out) c.append-y.ensures.more
          c.append-x.result c.append-y.result c.push-in-And.result c.join.result (held c.push-in-And.new.self) c.append-x.ensures.top c.append-y.ensures.top c.join.ensures c.push-in-And.ensures.more;
    }

pub append-x-requires-in-Or : goal.append-x-requires-in-Or
append-x-requires-in-Or t c =
    let a = arm_or c.args.table.now.nodes.now c.args.table.now.first c.args.at c.requires.within c.args.positive c.in-Or.place c.in-Or.left c.in-Or.right c.in-Or.is in
    (omega arith, (omega arith, room_left _ _ _ _ _ a.is (held c.args.out.now) c.requires.room))

pub append-y-requires-in-Or : goal.append-y-requires-in-Or
append-y-requires-in-Or t c =
    let a = arm_or c.args.table.now.nodes.now c.args.table.now.first c.args.at c.requires.within c.args.positive c.in-Or.place c.in-Or.left c.in-Or.right c.in-Or.is in
    (omega arith, (omega arith, room_right _ _ _ _ _ a.is (held c.args.out.now) c.requires.room (held c.append-x-in-Or.new.out) c.append-x-in-Or.ensures.more))

pub push-requires-in-Or : goal.push-requires-in-Or
push-requires-in-Or t c =
    let a = arm_or c.args.table.now.nodes.now c.args.table.now.first c.args.at c.requires.within c.args.positive c.in-Or.place c.in-Or.left c.in-Or.right c.in-Or.is in
    (omega arith, room_top _ _ _ _ _ a.is (held c.args.out.now) c.requires.room (held c.append-x-in-Or.new.out) c.append-x-in-Or.ensures.more (held c.append-y-in-Or.new.out) c.append-y-in-Or.ensures.more)

pub returns-in-Or : goal.returns-in-Or
returns-in-Or t c =
    let a = arm_or c.args.table.now.nodes.now c.args.table.now.first c.args.at c.requires.within c.args.positive c.in-Or.place c.in-Or.left c.in-Or.right c.in-Or.is in
    record {
      top =
          top_both _ _ _ _ _ a.is (held c.args.out.now) c.requires.room (held c.append-x-in-Or.new.out) c.append-x-in-Or.ensures.more (held c.append-y-in-Or.new.out) c.append-y-in-Or.ensures.more
          c.append-x-in-Or.result c.append-y-in-Or.result c.push-in-Or.result c.join-in-Or.result (held c.push-in-Or.new.self) c.append-x-in-Or.ensures.top c.append-y-in-Or.ensures.top c.join-in-Or.ensures c.push-in-Or.ensures.at;
      more =
          more_both _ _ _ _ _ a.is (held c.args.out.now) c.requires.room (held c.append-x-in-Or.new.out) c.append-x-in-Or.ensures.more (held c.append-y-in-Or.new.out) c.append-y-in-Or.ensures.more
          c.append-x-in-Or.result c.append-y-in-Or.result c.push-in-Or.result c.join-in-Or.result (held c.push-in-Or.new.self) c.append-x-in-Or.ensures.top c.append-y-in-Or.ensures.top c.join-in-Or.ensures c.push-in-Or.ensures.more;
    }

pub append-x-requires-in-Then : goal.append-x-requires-in-Then
append-x-requires-in-Then t c =
    let a = arm_then c.args.table.now.nodes.now c.args.table.now.first c.args.at c.requires.within c.args.positive c.in-Then.place c.in-Then.left c.in-Then.right c.in-Then.is in
    (omega arith, (omega arith, room_left _ _ _ _ _ a.is (held c.args.out.now) c.requires.room))

pub append-y-requires-in-Then : goal.append-y-requires-in-Then
append-y-requires-in-Then t c =
    let a = arm_then c.args.table.now.nodes.now c.args.table.now.first c.args.at c.requires.within c.args.positive c.in-Then.place c.in-Then.left c.in-Then.right c.in-Then.is in
    (omega arith, (omega arith, room_right _ _ _ _ _ a.is (held c.args.out.now) c.requires.room (held c.append-x-in-Then.new.out) c.append-x-in-Then.ensures.more))

pub push-requires-in-Then : goal.push-requires-in-Then
push-requires-in-Then t c =
    let a = arm_then c.args.table.now.nodes.now c.args.table.now.first c.args.at c.requires.within c.args.positive c.in-Then.place c.in-Then.left c.in-Then.right c.in-Then.is in
    (omega arith, room_top _ _ _ _ _ a.is (held c.args.out.now) c.requires.room (held c.append-x-in-Then.new.out) c.append-x-in-Then.ensures.more (held c.append-y-in-Then.new.out) c.append-y-in-Then.ensures.more)

pub returns-in-Then : goal.returns-in-Then
returns-in-Then t c =
    let a = arm_then c.args.table.now.nodes.now c.args.table.now.first c.args.at c.requires.within c.args.positive c.in-Then.place c.in-Then.left c.in-Then.right c.in-Then.is in
    record {
      top =
          top_both _ _ _ _ _ a.is (held c.args.out.now) c.requires.room (held c.append-x-in-Then.new.out) c.append-x-in-Then.ensures.more (held c.append-y-in-Then.new.out) c.append-y-in-Then.ensures.more
          c.append-x-in-Then.result c.append-y-in-Then.result c.push-in-Then.result c.join-in-Then.result (held c.push-in-Then.new.self) c.append-x-in-Then.ensures.top c.append-y-in-Then.ensures.top c.join-in-Then.ensures c.push-in-Then.ensures.at;
      more =
          more_both _ _ _ _ _ a.is (held c.args.out.now) c.requires.room (held c.append-x-in-Then.new.out) c.append-x-in-Then.ensures.more (held c.append-y-in-Then.new.out) c.append-y-in-Then.ensures.more
          c.append-x-in-Then.result c.append-y-in-Then.result c.push-in-Then.result c.join-in-Then.result (held c.push-in-Then.new.self) c.append-x-in-Then.ensures.top c.append-y-in-Then.ensures.top c.join-in-Then.ensures c.push-in-Then.ensures.more;
    }
