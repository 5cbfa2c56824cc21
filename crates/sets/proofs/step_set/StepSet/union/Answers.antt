use Rattle.std.proofs.Common.{arith}
use lib.Bits.{or_lt}
use Rattle.sets.proofs.FlagLaws.{has_union, has_above}
use Rattle.sets.proofs.step_set.StepSet.union.Goals as goal

pub returns-clause-answer : goal.returns-clause-answer
returns-clause-answer c = rw (← c.self.view_is, ← c.other.view_is) (has_union c.self.inside.word c.other.inside.word)

pub returns-clause-inside : goal.returns-clause-inside
returns-clause-inside c t h = has_above _ 128 t (or_lt 128 c.self.inside.word c.other.inside.word (omega arith) (omega arith)) h
