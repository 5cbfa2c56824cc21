use Rattle.sets.proofs.LeastFlag.{some_not_zero}
use Rattle.sets.proofs.step_set.StepIterIterator.next.Goals as goal

pub returns-clause-goes : goal.returns-clause-goes
returns-clause-goes c = record {
  on = λ _. (tt, tt, c.without_first-self.ensures.shrinks (some_not_zero c.args.self.now.rest c.in_ok-step.step c.in_ok-step.ensures.cases.passes));
  keeps = tt;
  rests = λ _. tt;
}
