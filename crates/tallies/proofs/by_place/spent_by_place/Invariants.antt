use Rattle.std.proofs.Common.{◌≡◌, ℕ, ◌*◌, length}
use Rattle.theory.specs.Firing.{one_at}
use Rattle.theory.specs.Rows.{at}
use Rattle.theory.specs.Sums.{sum_to}
use Rattle.tallies.proofs.by_place.spent_by_place.Given as goal

-- what the steps so far take; a proof in the loop takes the array for a list of any length, so its length is said
abbrev pub invariant-loop-step : goal.invariant-loop-step
invariant-loop-step g l =
    (length l.row ≡ 64) × ((p : ℕ) → at l.row p ≡ sum_to (λ t. at l.tally t * one_at ((g.N.Net.net l.net).input t) p) l.step)
