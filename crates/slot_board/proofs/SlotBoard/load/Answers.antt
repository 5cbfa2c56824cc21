use Rattle.std.proofs.Common.{◌≡◌, rules}
use Rattle.slot_board.proofs.SlotBoard.load.Goals as goal

-- stated, so that a board that holds something else is refused by this fact
pub returns : goal.returns
returns c =
    let same : c.in_ok-slots.slots.now ≡ c.args.bytes.now = search rules in
    record { answer = (search rules, same) }
