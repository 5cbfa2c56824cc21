-- How large a sum over the steps of a tally is.
use Rattle.std.proofs.Common.{ℕ, zero, suc, ◌*◌, ◌<◌, ◌≤◌, suc-mul, inl, inr, arith}
use Rattle.std.proofs.lemmas.Nat.{mul-le}
use Rattle.theory.specs.Nets.{LawfulNet}
use Rattle.theory.specs.Firing.{one_at}
use Rattle.theory.specs.Tallies.{Tally}
use Rattle.theory.specs.Sums.{sum_to}
use Rattle.theory.proofs.TallySums.{one_tells}

-- so many terms, each at most b
pub sum_at_most : (f : ℕ → ℕ) (n b : ℕ) → ((k : ℕ) → f k ≤ b) → sum_to f n ≤ n * b
unfolding sum_to
sum_at_most f zero b h = omega arith
sum_at_most f (suc n) b h = omega (arith, sum_at_most f n b h, h n, suc-mul n b)

one_at_most : (a b : ℕ) → one_at a b ≤ 1
one_at_most a b =
    elim (one_tells a b) [
      | inl e ↦ omega (arith, e.1)
      | inr e ↦ omega (arith, e.1)
    ]

-- so many steps of a tally of 16 bits each, up to 255 blocks a time
pub gained_few : (L : LawfulNet) (x : Tally) (n p : ℕ) → ((k : ℕ) → x k < 65536) → sum_to (λ t. x t * L.net.yields t p) n ≤ n * 16711425
gained_few L x n p small =
    sum_at_most (λ t. x t * L.net.yields t p) n 16711425 (λ k. mul-le (x k) (L.net.yields k p) 65535 255 (omega (arith, small k)) (L.law.yields_small k p))

-- and one block a time
pub spent_few : (L : LawfulNet) (x : Tally) (n p : ℕ) → ((k : ℕ) → x k < 65536) → sum_to (λ t. x t * one_at (L.net.input t) p) n ≤ n * 65535
spent_few L x n p small =
    sum_at_most (λ t. x t * one_at (L.net.input t) p) n 65535 (λ k. mul-le (x k) (one_at (L.net.input k) p) 65535 1 (omega (arith, small k)) (one_at_most (L.net.input k) p))
