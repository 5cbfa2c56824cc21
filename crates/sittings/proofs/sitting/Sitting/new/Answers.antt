use Rattle.std.proofs.Common.{◌≡◌, ℕ, zero, suc, ◌*◌, ◌≤◌, replicate, refl, ⊎_elim, arith}
use Rattle.std.proofs.lemmas.List.{get_or-replicate, get_or_past}
use Rattle.std.proofs.lemmas.Bool.{cases_lt}
use Rattle.theory.specs.Rows.{at}
use Rattle.theory.specs.Sums.{sum_to}
use Rattle.sittings.proofs.sitting.Sitting.new.Goals as goal

zeros : (t : ℕ) → at (replicate 128 0) t ≡ 0
zeros t = ⊎_elim (λ h. get_or-replicate 128 t 0 0 h) (λ h. get_or_past (replicate 128 0) t 0 h) (cases_lt t 128)

-- the total of a row of small numbers, whichever they are: so a done row of others is refused by what `new` says of it
small : (n t : ℕ) → n ≤ 511 → at (replicate 128 n) t ≤ 511
small n t few =
    ⊎_elim (λ h. omega (arith, get_or-replicate 128 t n 0 h)) (λ h. omega (arith, get_or_past (replicate 128 n) t 0 h)) (cases_lt t 128)

small_total : (f : ℕ → ℕ) (k : ℕ) → ((t : ℕ) → f t ≤ 511) → sum_to f k ≤ 511 * k
unfolding sum_to
small_total f zero few = omega arith
small_total f (suc k) few = omega (arith, small_total f k few, few k)

total_of : (n : ℕ) → n ≤ 511 → sum_to (at (replicate 128 n)) 128 ≤ 65535
total_of n few = omega (arith, small_total (at (replicate 128 n)) 128 (λ t. small n t few))

pub invariant_of-result : goal.invariant_of-result
invariant_of-result g c = record { long = refl; total = total_of _ (omega arith) }

pub returns-clause-done : goal.returns-clause-done
returns-clause-done g c = zeros
