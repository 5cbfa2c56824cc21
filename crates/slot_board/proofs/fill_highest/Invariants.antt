use Rattle.std.proofs.Common.{◌≡◌, ◌+◌, ◌-◌, drop}
use Rattle.slot_board.specs.Slots.{occurs}
use Rattle.slot_board.proofs.FillTurns.{done_from}
use Rattle.slot_board.proofs.fill_highest.Given as goal

abbrev pub invariant-loop-i : goal.invariant-loop-i
invariant-loop-i l =
    (l.slots ≡ done_from (l.place + 1) l.n l.i l.initial.slots) × (l.left ≡ l.n - occurs 0 (drop l.i l.initial.slots))
