use Rattle.std.proofs.Common.{◌≡◌, ◌+◌, length}
use Rattle.lines.specs.Lines.{numbers}
use Rattle.lines.proofs.room.room_after.Given as goal

-- what is taken off is the length of the numbers that are no longer in the rest
abbrev pub invariant-loop-rest : goal.invariant-loop-rest
invariant-loop-rest l = l.left + length (numbers l.row) ≡ l.room + length (numbers l.rest)

abbrev pub decreases-loop-rest : goal.decreases-loop-rest
decreases-loop-rest l = length l.rest
