use Rattle.std.proofs.Common.{length, ◌≤◌}
use Rattle.board_vectors.proofs.on_pile.calls_on.Given as goal

abbrev pub invariant-loop-left : goal.invariant-loop-left
invariant-loop-left g l = length l.left ≤ length l.lines

abbrev pub decreases-loop-left : goal.decreases-loop-left
decreases-loop-left g l = length l.left
