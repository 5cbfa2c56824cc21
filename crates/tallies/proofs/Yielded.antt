-- All blocks that a tally yields, added up place by place.
use Rattle.std.proofs.Common.{◌≡◌, ℕ, zero, suc, ◌*◌, sym, ◌∙◌, mul-add, mul-zero, arith}
use Rattle.theory.specs.Sums.{sum_to}
use Rattle.theory.specs.Nets.{NetMeaning}
use Rattle.theory.specs.Tallies.{Tally, gained}
use Rattle.theory.proofs.SumLaws.{sum_to_same, sum_to_swap}
use Rattle.answers.specs.States.{yields_of, yields_asked}

-- a factor of each term
sum_times : (a : ℕ) (f : ℕ → ℕ) (n : ℕ) → sum_to (λ p. a * f p) n ≡ a * sum_to f n
unfolding sum_to
sum_times a f zero = sym (mul-zero a)
sum_times a f (suc n) = omega (arith, sum_times a f n, mul-add a (sum_to f n) (f n))

-- what all places gain
pub gained_in_all : (N : NetMeaning) (x : Tally) → sum_to (gained N x) N.places ≡ yields_asked N x
gained_in_all N x =
    sum_to_swap (λ p t. x t * N.yields t p) N.places N.steps
    ∙ sum_to_same (λ t. sum_to (λ p. x t * N.yields t p) N.places) (λ t. x t * yields_of N t) N.steps (λ t _. sum_times (x t) (N.yields t) N.places)
