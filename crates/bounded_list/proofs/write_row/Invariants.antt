use Rattle.std.proofs.Common.{◌≡◌, take}
use Rattle.bounded_list.proofs.Written.{Written}
use Rattle.bounded_list.proofs.write_row.Given as goal

-- so much of the row is written
abbrev pub invariant-loop-x : goal.invariant-loop-x
invariant-loop-x g l =
    (l.list.memory.ghost_name ≡ l.initial.list.memory.ghost_name)
    × Written l.initial.list.memory.now (take l.x-index l.row) l.list.memory.now l.list.len
