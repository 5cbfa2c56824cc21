use Rattle.sets.proofs.FlagLaws.{has_none}
use Rattle.sets.proofs.step_set.StepSet.empty.Goals as goal

pub returns-clause-answer : goal.returns-clause-answer
returns-clause-answer c = has_none
