-- A row with one less of a number.
use Rattle.std.proofs.Common.{◌≡◌, ℕ, ◌-◌, ◌<◌, List, length, set, sym, refl, ◌∙◌, subst, inl, inr, arith}
use Rattle.std.proofs.lemmas.List.{get_or-set_same, get_or-set_other, get_or_past}
use Rattle.std.proofs.lemmas.Bool.{cases_eq, cases_lt}
use Rattle.theory.specs.Rows.{at}
use Rattle.theory.specs.Firing.{one_at}
use Rattle.theory.proofs.TallySums.{one_same, one_other}

-- a number above 0 stands within its row
within : (row : List ℕ) (i : ℕ) → 0 < at row i → i < length row
within row i h = elim (cases_lt i (length row)) [ inl l ↦ l | inr k ↦ absurd (omega (arith, get_or_past row i 0 k)) ]

-- a row with 1 taken at i
pub one_less_at : (row : List ℕ) (i j : ℕ) → 0 < at row i → at (set row i (at row i - 1)) j ≡ at row j - one_at i j
one_less_at row i j h = elim (cases_eq j i) [
  | inl e ↦
      subst (λ (k : ℕ). at (set row i (at row i - 1)) k ≡ at row k - one_at i k) (sym e)
      (get_or-set_same row i (at row i - 1) 0 (within row i h) ∙ (omega (arith, one_same i i refl)))
  | inr d ↦ get_or-set_other row i j (at row i - 1) 0 d ∙ (omega (arith, one_other i j (λ e. d (sym e))))
]
