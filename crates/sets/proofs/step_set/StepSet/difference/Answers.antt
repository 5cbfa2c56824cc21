use Rattle.std.proofs.Common.{arith}
use Rattle.std.specs.Int.{w128}
use Rattle.sets.proofs.FlagLaws.{has_minus, minus_above}
use Rattle.sets.proofs.step_set.StepSet.difference.Goals as goal

pub returns-clause-answer : goal.returns-clause-answer
returns-clause-answer c =
    rw (← c.self.view_is, ← c.other.view_is)
    (λ p. has_minus w128 c.self.inside.word c.other.inside.word p (omega arith) (omega arith))

pub returns-clause-inside : goal.returns-clause-inside
returns-clause-inside c p = minus_above 128 c.self.inside.word c.other.inside.word p (omega arith)
