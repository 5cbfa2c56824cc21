-- Sums over the places of a row.
use Rattle.std.proofs.Common.{◌≡◌, ℕ, ◌+◌, ◌<◌, ◌≤◌, zero, suc, List, length, get_or, set, replicate, take, sum, sum_by, sym, ap, ◌∙◌, ◌*◌, add-one, arith}
use Rattle.std.proofs.lemmas.List.Sums.{sum_by_more}
use Rattle.std.proofs.lemmas.List.{take_all, get_or-set_same, get_or-set_other, get_or-replicate}
use Rattle.theory.specs.Sums.{sum_to}
use Rattle.theory.proofs.SumLaws.{sum_to_change, sum_to_none, le_sum_to, sum_to_suc, sum_to_zero}
use Rattle.boards.specs.Boards.{BoardLaw}
use Rattle.theory.specs.Rows.{at}

-- the law holds on where one number and spare change and do not add up to more than before
pub law_after : (xs : List ℕ) (p v spare spare' : ℕ) → length xs ≡ 64 → p < 64 → v + spare' ≤ get_or xs p 0 + spare → BoardLaw (at xs) spare → BoardLaw (at (set xs p v)) spare'
law_after xs p v spare spare' long h le law =
    let l : p < length xs = omega arith in
    let e = sum_to_change (at xs) (at (set xs p v)) 64 p h (λ q ne. get_or-set_other xs p q v 0 ne) in
    omega (arith, e, get_or-set_same xs p v 0 l, le, law)

-- no number of a row is above their sum
pub row_at : (xs : List ℕ) (p : ℕ) → p < 64 → get_or xs p 0 ≤ sum_to (at xs) 64
row_at xs p h = le_sum_to (at xs) 64 p h

-- zeros add up to zero
pub zeros_sum : (n : ℕ) → sum_to (at (replicate n 0)) n ≡ 0
zeros_sum n = sum_to_none (at (replicate n 0)) n (λ p l. get_or-replicate n p 0 0 l)

-- a row's sum, place by place
sum_row_to : (row : List ℕ) (n : ℕ) → n ≤ length row → sum_by (λ x. x) (take n row) ≡ sum_to (at row) n
sum_row_to row zero h = omega (arith, sum_to_zero (at row))
sum_row_to row (suc n) h =
    let e : sum_by (λ x. x) (take (n + 1) row) ≡ sum_by (λ x. x) (take n row) + get_or row n 0 = sum_by_more (λ x. x) row n 0 (omega arith) in
    let e' : sum_to (at row) (n + 1) ≡ sum_to (at row) n + get_or row n 0 = sum_to_suc (at row) n in
    rw (← add-one) (e ∙ ap (λ s. s + get_or row n 0) (sum_row_to row n (omega arith)) ∙ sym e')

pub sum_row : (row : List ℕ) (n : ℕ) → length row ≡ n → sum row ≡ sum_to (at row) n
sum_row row n h =
    let e : take n row ≡ row = take_all n row (omega arith) in
    ap (sum_by (λ x. x)) (sym e) ∙ sum_row_to row n (omega arith)

-- numbers of at most m
pub sum_row_le : (row : List ℕ) (m n : ℕ) → ((k : ℕ) → get_or row k 0 ≤ m) → sum_to (at row) n ≤ n * m
sum_row_le row m zero small = omega (arith, sum_to_zero (at row))
sum_row_le row m (suc n) small =
    let e : sum_to (at row) (n + 1) ≡ sum_to (at row) n + get_or row n 0 = sum_to_suc (at row) n in
    rw (← add-one) (omega (arith, sum_row_le row m n small, small n, e))
