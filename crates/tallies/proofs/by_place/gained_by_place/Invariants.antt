use Rattle.std.proofs.Common.{◌≡◌, ℕ, ◌*◌}
use Rattle.theory.specs.Rows.{at}
use Rattle.theory.specs.Sums.{sum_to}
use Rattle.tallies.proofs.by_place.gained_by_place.Given as goal

-- what the steps so far yield
abbrev pub invariant-loop-step : goal.invariant-loop-step
invariant-loop-step g l = (p : ℕ) → at l.row p ≡ sum_to (λ t. at l.tally t * (g.N.Net.net l.net).yields t p) l.step
