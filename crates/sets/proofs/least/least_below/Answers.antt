use Rattle.std.proofs.Common.{sym, arith}
use Rattle.theory.proofs.Decided.{least_found, none_found}
use Rattle.sets.proofs.least.least_below.Goals as goal

pub returns-then-test-clause-answer : goal.returns-then-test-clause-answer
returns-then-test-clause-answer g c p h =
    sym ((least_found p c.args.end c.loop-number.number).1 (record { inside = c.loop-number-test.true; passes = sym (h _ _ c.loop-number-test.true c.if-test.ensures); least = λ k l. sym (h k _ (omega (arith, l, c.loop-number-test.true)) (c.loop-number.invariant k l)) }))

pub returns-clause-answer : goal.returns-clause-answer
returns-clause-answer g c p h =
    sym ((none_found p c.args.end).1 (λ k l. sym (h k _ l (c.loop-number.invariant k (omega (arith, l, c.loop-number-test.false))))))
