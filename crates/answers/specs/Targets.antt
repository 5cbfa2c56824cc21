-- What a lent target asks for.
use Rattle.answers.specs.States.{Target, target_of}
use Rattle.answers.specs.declared.Target as lent

-- its numbers, place by place, and the byte of its kind
abbrev pub lent_target : lent.Target → Target
lent_target t = target_of t.numbers.now t.kind
