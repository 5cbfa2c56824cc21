-- A row of sums, one term more at a time.
use Rattle.std.proofs.Common.{◌≡◌, ℕ, ◌+◌, ◌*◌, ◌<◌, List, length, set, replicate, sym, ap, inl, inr, arith}
use Rattle.std.proofs.lemmas.Bool.{cases_lt}
use Rattle.std.proofs.lemmas.List.{get_or-replicate, get_or_past, get_or-set_same, get_or-set_other, length-replicate}
use Rattle.theory.specs.Firing.{one_at}
use Rattle.theory.specs.Rows.{at}
use Rattle.theory.specs.Sums.{sum_to}
use Rattle.theory.proofs.SumLaws.{sum_to_suc, sum_to_zero}
use Rattle.theory.proofs.TallySums.{one_tells}

-- a row of zeros is 0 past its end too
zeros : (n p : ℕ) → at (replicate n 0) p ≡ 0
zeros n p =
    elim (cases_lt p n) [
      | inl h ↦ get_or-replicate n p 0 0 h
      | inr h ↦ get_or_past (replicate n 0) p 0 (omega (arith, length-replicate {A = ℕ} n 0))
    ]

-- no term so far
pub none_added : (f : ℕ → ℕ) (n p : ℕ) → at (replicate n 0) p ≡ sum_to f 0
none_added f n p = omega (arith, zeros n p, sum_to_zero f)

-- one term more
pub one_added : (f : ℕ → ℕ) (n a b : ℕ) → a ≡ sum_to f n → b ≡ f n → a + b ≡ sum_to f (n + 1)
one_added f n a b h e = omega (arith, sum_to_suc f n)

-- one more that is 0
pub passed_over : (f : ℕ → ℕ) (n a : ℕ) → a ≡ sum_to f n → f n ≡ 0 → a ≡ sum_to f (n + 1)
passed_over f n a h e = omega (arith, sum_to_suc f n)

-- a number is added at q alone
pub added_at : (row : List ℕ) (q p v : ℕ) → q < length row → at (set row q (at row q + v)) p ≡ at row p + v * one_at q p
added_at row q p v h =
    elim (one_tells q p) [
      | inl e ↦ omega (arith, ap (at (set row q (at row q + v))) e.0, ap (at row) e.0, get_or-set_same row q (at row q + v) 0 h, ap (λ z. v * z) e.1)
      | inr e ↦ omega (arith, get_or-set_other row q p (at row q + v) 0 (λ z. e.0 (sym z)), ap (λ z. v * z) e.1)
    ]
