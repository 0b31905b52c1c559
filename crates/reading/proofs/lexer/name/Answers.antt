use Rattle.std.proofs.Common.{arith, rules}
use Rattle.reading.proofs.Naming.{next_some, stored_more, too_long, ends, next_none}
use Rattle.reading.proofs.lexer.name.Goals as goal

pub returns-then-decoded-ge-NAME_BYTES-clause-value : goal.returns-then-decoded-ge-NAME_BYTES-clause-value
returns-then-decoded-ge-NAME_BYTES-clause-value c =
    too_long c.in-Some.b c.in-Some.tail.now c.loop-b.invariant (next_some c.loop-b.rest.now c.in-Some.b c.in-Some.tail.now c.in-Some.ensures) c.if-decoded-ge-NAME_BYTES.true

pub loop-b-preserved : goal.loop-b-preserved
loop-b-preserved c =
    stored_more c.in-Some.b c.in-Some.tail.now c.loop-b.invariant (next_some c.loop-b.rest.now c.in-Some.b c.in-Some.tail.now c.in-Some.ensures) c.if-decoded-ge-NAME_BYTES.false

pub returns-clause-value : goal.returns-clause-value
returns-clause-value c = ends c.loop-b.invariant c.in_default.ensures _ (search rules)

pub overflow_sub-result : goal.overflow_sub-result
overflow_sub-result c =
    let t = c.loop-b.invariant.takes in
    omega (arith, (next_none c.loop-b.rest.now c.in_default.ensures).1)
