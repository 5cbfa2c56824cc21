use Rattle.std.proofs.Common.{◌≡◌, ℕ, ◌<◌, ◌*◌, ◌≤◌}
use Rattle.theory.specs.Sums.{sum_to}
use Rattle.tallies.proofs.sums.sum_below.Given as goal

-- the sum of the terms so far, each below 2 ^ 32
abbrev pub invariant-loop-number : goal.invariant-loop-number
invariant-loop-number g l =
    ((f : ℕ → ℕ) → ((k r : ℕ) → k < l.end → goal.F-post g l.term k r → r ≡ f k) → l.sum ≡ sum_to f l.number) × (l.sum ≤ 4294967295 * l.number)
