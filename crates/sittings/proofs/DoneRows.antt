-- The done row: one more of a step, and a tally added.
use Rattle.std.proofs.Common.{◌≡◌, ℕ, ◌+◌, ◌<◌, ◌≤◌, eqb, List, length, set, ap, ◌∙◌, ⊎_elim, arith}
use mathlib.Core.Path.{fun_ext}
use Rattle.std.proofs.lemmas.List.{get_or-set_same, get_or-set_other}
use Rattle.std.proofs.lemmas.Bool.{cases_eq, cases_lt, eq-eqb, ne_eqb, cond-true, cond-false}
use Rattle.theory.specs.Sums.{sum_to}
use Rattle.theory.specs.Rows.{at}
use Rattle.theory.specs.Firing.{one_at}
use Rattle.theory.proofs.SumLaws.{le_sum_to, sum_to_same, sum_to_add, sum_to_change}
use Rattle.answers.proofs.Leading.{at_past}
use Rattle.answers.proofs.Histories.{sum_past}

-- the total grows by one
pub one_more_total : (row : List ℕ) (n t : ℕ) → length row ≡ n → t < n → sum_to (at (set row t (at row t + 1))) n ≡ sum_to (at row) n + 1
one_more_total row n t long h =
    let l : t < length row = omega arith in
    omega (arith, sum_to_change (at row) (at (set row t (at row t + 1))) n t h (λ q ne. get_or-set_other row t q (at row t + 1) 0 ne), get_or-set_same row t (at row t + 1) 0 l)

-- and each count as the step is the one or another
pub one_more : (row : List ℕ) (t : ℕ) → t < length row → at (set row t (at row t + 1)) ≡ (λ u. at row u + one_at t u)
one_more row t h = fun_ext (λ u.
    ⊎_elim
    (λ (e : u ≡ t).
    omega (arith, ap (at (set row t (at row t + 1))) e, ap (at row) e, get_or-set_same row t (at row t + 1) 0 h, cond-true {A = ℕ} (eqb t u) 1 0 (eq-eqb t u (omega arith))))
    (λ (ne : u ≡ t → ⊥).
    omega (arith, get_or-set_other row t u (at row t + 1) 0 ne, cond-false {A = ℕ} (eqb t u) 1 0 (ne_eqb t u (λ e. ne (omega arith)))))
    (cases_eq u t))

-- a tally of so many numbers is added up by its first numbers
pub tally_total : (tally : List ℕ) (steps : ℕ) → length tally ≡ steps → steps ≤ 128 → sum_to (at tally) 128 ≡ sum_to (at tally) steps
tally_total tally steps long few = sum_past (at tally) steps 128 few (λ u h. at_past tally u (omega arith))

-- where the totals fit, so does each sum of two counts
pub counts_fit : (done tally : List ℕ) (steps : ℕ) → length done ≡ 128 → length tally ≡ steps → steps ≤ 128 →
    sum_to (at done) 128 + sum_to (at tally) steps ≤ 65535 → (t : ℕ) → at done t + at tally t ≤ 65535
counts_fit done tally steps long asked few fits t =
    ⊎_elim
    (λ (h : t < 128).
    omega (arith, fits, le_sum_to (at done) 128 t h, le_sum_to (at tally) 128 t h, tally_total tally steps asked few))
    (λ (h : 128 ≤ t). omega (arith, at_past done t (omega arith), at_past tally t (omega arith)))
    (cases_lt t 128)

-- the total of both
pub added_total : (done tally done' : List ℕ) (steps : ℕ) → length tally ≡ steps → steps ≤ 128 →
    ((t : ℕ) → at done' t ≡ at done t + at tally t) → sum_to (at done') 128 ≡ sum_to (at done) 128 + sum_to (at tally) steps
added_total done tally done' steps asked few added =
    sum_to_same (at done') (λ t. at done t + at tally t) 128 (λ t _. added t)
    ∙ sum_to_add (at done) (at tally) 128
    ∙ ap (λ z. sum_to (at done) 128 + z) (tally_total tally steps asked few)
