-- What a slot board shows of itself.
use Rattle.std.specs.Prelude.{ℕ, List}
use Rattle.slot_board.specs.declared.SlotBoard.{SlotBoard}

-- its 4,096 slots, from the lowest number up: 0 for an empty one, or the place of its block and 1
abbrev pub slot_bytes : SlotBoard → List ℕ
slot_bytes b = b.slots
