-- A number at one place and 0 at every other.
use Rattle.std.proofs.Common.{◌≡◌, ℕ, eqb}
use Rattle.std.proofs.lemmas.Bool.{eq-eqb, ne_eqb, cond-true, cond-false}
use Rattle.theory.specs.Firing.{only_at}

pub at_same : (place p n : ℕ) → place ≡ p → only_at place p n ≡ n
at_same place p n e = cond-true (eqb place p) n 0 (eq-eqb place p e)

pub at_other : (place p n : ℕ) → (place ≡ p → ⊥) → only_at place p n ≡ 0
at_other place p n ne = cond-false (eqb place p) n 0 (ne_eqb place p ne)
