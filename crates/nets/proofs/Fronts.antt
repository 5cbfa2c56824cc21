-- An array whose first elements a loop fills by index, whatever the others hold.
use Rattle.std.proofs.Common.{◌≡◌, ℕ, ◌<◌, List, length, slice_index_or}

-- P holds of each of the first n elements of 128; past the end is e
pub record Front {B : Type 0} (P : ℕ → B → Type 0) (e : B) (n : ℕ) (row : List B) : Type 0 where
  pub long : length row ≡ 128
  pub filled : (k : ℕ) → k < n → P k (slice_index_or row k e)
