-- A net as a table: the input of each step in one row, and a row of yields for each step.
use Rattle.std.specs.Prelude.{ℕ, Bool, if◌then◌else◌, ◌&&◌, List, [], nat_lt, slice_index_or}
use Rattle.theory.specs.Nets.{NetMeaning}
use Rattle.theory.specs.Rows.{at}
use Rattle.theory.specs.Tests.{any_below}

-- the yield in the row of a step at a place
abbrev pub cell : List (List ℕ) → ℕ → ℕ → ℕ
cell yields t p = at (slice_index_or yields t []) p

-- the step yields at one of so many places
abbrev pub yields_somewhere : List (List ℕ) → ℕ → ℕ → Bool
yields_somewhere yields places t = any_below (λ p. nat_lt 0 (cell yields t p)) places

-- what a table of so many places and steps means
abbrev pub table_net : ℕ → ℕ → List ℕ → List (List ℕ) → NetMeaning
table_net places steps inputs yields = record {
  places = places;
  steps = steps;
  input = λ t. if nat_lt t steps then at inputs t else 0;
  yields = λ t p. if nat_lt t steps && nat_lt p places then cell yields t p else 0;
}
