use Rattle.std.proofs.Common.{◌≡◌}
use Rattle.theory.specs.Rows.{at}
use Rattle.first_order.proofs.Going.{Going}
use Rattle.first_order.proofs.order.write_first_order.Given as goal

-- so many steps of the first order are found and written
abbrev pub invariant-loop : goal.invariant-loop
invariant-loop g l =
    (l.order.memory.ghost_name ≡ l.initial.order.memory.ghost_name)
    × Going (g.N.Net.net l.net) (at l.counts) (at l.tally) l.initial.order.memory.now l.counter l.schedule l.order.memory.now l.order.len
