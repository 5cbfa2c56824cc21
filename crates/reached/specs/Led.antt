-- The places that are led to from some places.
use Rattle.std.specs.Prelude.{◌≡◌, ℕ, Bool, true, List, ◌==◌}
use Rattle.sets.specs.Flags.{has}
use Rattle.theory.specs.Rows.{at}

-- p is in set i of the row; nothing is in a set past its end
abbrev pub has_at : List ℕ → ℕ → ℕ → Bool
has_at row i p = has (at row i) p

-- p is led to: it is in every set that has the first places and, with each place, those to which that leads
abbrev pub Led : (ℕ → ℕ → Bool) → (ℕ → Bool) → ℕ → Type 0
Led leads first p =
    (set : ℕ → Bool) → ((q : ℕ) → first q ≡ true → set q ≡ true) →
    ((q r : ℕ) → set q ≡ true → leads q r ≡ true → set r ≡ true) → set p ≡ true

-- q is another place from which p is reached, where `before` has for each place from where it is reached at once
abbrev pub OtherOrigin : (ℕ → ℕ → Bool) → ℕ → ℕ → Type 0
OtherOrigin before p q = Led before (λ z. z == p) q × (q ≡ p → ⊥)
