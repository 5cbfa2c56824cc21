use Rattle.std.proofs.Common.{ℕ, ◌+◌, ◌-◌, ◌%◌, ◌^◌, arith}
use Rattle.sets.proofs.LeastFlag.{less_first, none_in_both}
use Rattle.sets.proofs.step_set.StepSet.without_first.Goals as goal

pub returns-clause-answer : goal.returns-clause-answer
returns-clause-answer c =
    let w : ℕ = c.self.inside.word in
    rw (← c.self.view_is) (λ k. less_first 128 w ((w + (2 ^ 128 - 1)) % 2 ^ 128) k (λ some. omega arith))

pub returns-clause-none : goal.returns-clause-none
returns-clause-none c =
    let w : ℕ = c.self.inside.word in
    rw (← c.self.view_is) (none_in_both w ((w + (2 ^ 128 - 1)) % 2 ^ 128))
