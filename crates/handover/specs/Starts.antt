-- What a board has on it when a day begins.
use Rattle.std.specs.Prelude.{◌≡◌, ℕ, ◌<◌, List}
use Rattle.theory.specs.Rows.{at}

-- the counts at the 64 places are the start's, and 0 past its end
abbrev pub ShowsStart : List ℕ → (ℕ → ℕ) → Type 0
ShowsStart start counts = (p : ℕ) → p < 64 → counts p ≡ at start p
