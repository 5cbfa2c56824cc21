use Rattle.std.proofs.Common.{take}
use Rattle.lines.specs.Lines.{numbers, Puts}
use Rattle.lines.proofs.numbers.put_numbers.Given as goal

-- so much of it is put
abbrev pub invariant-loop-number : goal.invariant-loop-number
invariant-loop-number l = Puts (numbers (take l.number-index l.row)) l.initial.line l.begin l.line l.end
