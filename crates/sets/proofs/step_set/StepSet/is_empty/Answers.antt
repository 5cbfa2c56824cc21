use Rattle.std.proofs.Common.{arith}
use Rattle.std.specs.Int.{w128}
use Rattle.sets.proofs.FlagLaws.{zero_empty}
use Rattle.sets.proofs.step_set.StepSet.is_empty.Goals as goal

pub returns : goal.returns
returns c = rw (← c.self.view_is) (zero_empty w128 c.self.inside.word (omega arith))
