use Rattle.std.proofs.Common.{◌∙◌, arith, length-set}
use Rattle.boards.proofs.RowSums.{law_after, row_at}
use Rattle.boards.proofs.count_board.CountBoardBoard.put.Goals as goal

pub overflow_add-self : goal.overflow_add-self
overflow_add-self c =
    let b = c.args.self.now in
    let at_place = c.in_ok-i.ensures.answer in
    let left = rw c.in_ok-self.ensures.ok_part at c.checked_sub.ensures in
    omega (arith, b.lawful, row_at b.counts c.in_ok-i.i (omega arith))

pub invariant_of-self : goal.invariant_of-self
invariant_of-self c =
    let b = c.args.self.now in
    let at_place = c.in_ok-i.ensures.answer in
    let left = rw c.in_ok-self.ensures.ok_part at c.checked_sub.ensures in
    record {
      long = length-set b.counts _ _ ∙ b.long;
      lawful = law_after b.counts _ _ b.spare _ b.long (omega arith) (omega arith) b.lawful;
    }
