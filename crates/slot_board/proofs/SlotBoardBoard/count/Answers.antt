use Rattle.std.proofs.Common.{◌+◌, sym, arith}
use Rattle.slot_board.specs.Occurs.{occurs_absent}
use Rattle.slot_board.proofs.SlotBoardBoard.count.Goals as goal

pub returns-then-place-gt-LAST_PLACE : goal.returns-then-place-gt-LAST_PLACE
returns-then-place-gt-LAST_PLACE c =
    let b = c.args.self.now in
    let place = c.args.place in
    record { answer = sym (occurs_absent (place + 1) b.slots (λ k l e. omega (arith, b.fit.small k, e))) }
