use Rattle.std.proofs.Common.{◌-◌, ◌^◌, ◌<◌}
use Rattle.sets.specs.Flags.{has}
use Rattle.reached.specs.Led.{has_at}
use Rattle.reached.proofs.Searching.{Searching}
use Rattle.reached.proofs.search.reached_from.Given as goal

abbrev pub invariant-loop-place : goal.invariant-loop-place
invariant-loop-place l =
    Searching (has_at l.leads) (has l.initial.seen) (has l.seen) (has l.done)
    × (l.done < 2 ^ 64)

abbrev pub decreases-loop-place : goal.decreases-loop-place
decreases-loop-place l = 2 ^ 64 - l.done
