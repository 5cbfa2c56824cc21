use Rattle.std.proofs.Common.{refl, arith}
use Rattle.boards.proofs.RowSums.{zeros_sum}
use Rattle.boards.proofs.count_board.CountBoard.new.Goals as goal

pub invariant_of-result : goal.invariant_of-result
invariant_of-result c = record { long = refl; lawful = omega (arith, zeros_sum 64) }
