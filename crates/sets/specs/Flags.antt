-- A set of numbers as the binary digits of one number.
use Rattle.std.specs.Prelude.{◌≡◌, ℕ, ◌/◌, ◌%◌, ◌^◌, Bool, false, not, ◌&&◌, Option}
use Rattle.std.specs.Prelude.{MatchOption, ◌==◌}
use Rattle.theory.specs.Laws.{IsLeast}
use Rattle.theory.specs.Tests.{least}

-- p is in the set: digit p of the word is 1
unfoldable pub has : ℕ → ℕ → Bool
has w p = w / 2 ^ p % 2 == 1

-- the least of the places below n that is in the set
unfoldable pub first_in : ℕ → ℕ → Option ℕ
first_in n w = least (has w) n

-- nothing is in the set
abbrev pub IsEmpty : ℕ → Type 0
IsEmpty w = (p : ℕ) → has w p ≡ false

-- the least that is in the set and below n is taken out, or nothing is in it
abbrev pub TakesFirst : (n w : ℕ) → Option ℕ → (rest : ℕ) → Type 0
TakesFirst n w r rest =
    MatchOption r (IsEmpty w) (λ p. IsLeast (has w) n p × ((q : ℕ) → has rest q ≡ (has w q && not (q == p))))
