use Rattle.sets.proofs.FlagLaws.{without_flag}
use Rattle.sets.proofs.step_set.StepSet.without.Goals as goal

pub returns-clause-answer : goal.returns-clause-answer
returns-clause-answer c p =
    without_flag 128 c.args.self c.with.result c.difference.result c.empty.result p c.args.step
    c.empty.ensures.answer (c.with.ensures.answer p) (c.difference.ensures.answer p) (c.difference.ensures.inside p)
