use Rattle.std.proofs.Common.{◌≡◌, ℕ, true, ◌&&◌}
use Rattle.sets.specs.Flags.{has}
use Rattle.reached.specs.Led.{has_at}
use Rattle.sets.proofs.Passed.{passed}
use Rattle.first_order.specs.Tables.{any_step}
use Rattle.first_order.proofs.schedule.Schedule.yields_of.Given as goal

-- where the steps passed so far yield
abbrev pub invariant-loop-step : goal.invariant-loop-step
invariant-loop-step l =
    ((p : ℕ) → has l.places p ≡ any_step (λ t. passed l.initial.step-iterator.rest l.step-iterator.rest t && has_at l.self.yields t p))
    × ((t : ℕ) → has l.step-iterator.rest t ≡ true → has l.initial.step-iterator.rest t ≡ true)
