use Rattle.boards.proofs.Moves.{MovedTo}
use Rattle.boards.proofs.count_board.moved.Given as goal

abbrev pub invariant-loop-place : goal.invariant-loop-place
invariant-loop-place l = MovedTo l.place l.counts l.taken l.put l.row
