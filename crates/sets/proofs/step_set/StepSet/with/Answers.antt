use Rattle.std.proofs.Common.{◌*◌, ◌%◌, ◌^◌, arith}
use Rattle.std.specs.Int.{w128}
use lib.Bits.{or_lt}
use Rattle.sets.proofs.FlagLaws.{has_with, with_greater}
use Rattle.sets.proofs.step_set.StepSet.with.Goals as goal

pub returns-then-step-lt-STEPS-clause-answer : goal.returns-then-step-lt-STEPS-clause-answer
returns-then-step-lt-STEPS-clause-answer c =
    rw (← c.self.view_is) (λ p. has_with w128 c.self.inside.word c.args.step p c.if-step-lt-STEPS.true)

pub returns-then-step-lt-STEPS-clause-grows : goal.returns-then-step-lt-STEPS-clause-grows
returns-then-step-lt-STEPS-clause-grows c =
    rw (← c.self.view_is) (λ h _. with_greater 128 c.self.inside.word c.args.step c.if-step-lt-STEPS.true h)

pub returns-then-step-lt-STEPS-clause-bound : goal.returns-then-step-lt-STEPS-clause-bound
returns-then-step-lt-STEPS-clause-bound c = or_lt 128 c.self.inside.word ((1 * 2 ^ c.args.step) % 2 ^ 128) (omega arith) (omega arith)
