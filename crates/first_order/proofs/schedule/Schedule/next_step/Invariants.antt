use Rattle.std.proofs.Common.{◌≡◌, ℕ, true, false}
use Rattle.sets.specs.Flags.{has}
use Rattle.first_order.specs.Shows.{TellsSafe}
use Rattle.first_order.specs.Tables.{Kept}
use Rattle.first_order.proofs.schedule.Schedule.next_step.Given as goal

-- the steps that are ready and not among the rest are told not to be safe
abbrev pub invariant-loop-step : goal.invariant-loop-step
invariant-loop-step l =
    Kept l.initial.self l.self
    × ((t : ℕ) → has l.step-iterator.rest t ≡ true → has l.initial.self.ready t ≡ true)
    × ((t : ℕ) → has l.initial.self.ready t ≡ true → has l.step-iterator.rest t ≡ false → TellsSafe l.initial.self t false)
