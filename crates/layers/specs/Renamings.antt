-- What a renaming row is, the counts and rows of numbers under it, and what its load answers and leaves.
use Rattle.std.specs.Prelude.{◌≡◌, ℕ, ◌<◌, if◌then◌else◌, List, length, Ok, Err, Result, nat_lt}
use Rattle.std.specs.Prelude.{slice_index}
use Rattle.refusals.specs.declared.Refusal.{Refusal}
use Rattle.refusals.specs.declared.Refusal.TheVariants.{NotARenaming}

-- a permutation of the places 0 to 63
pub record IsRenaming (row : List ℕ) : Type 0 where
  pub long : length row ≡ 64
  pub inside : (p : ℕ) → p < 64 → slice_index row p < 64
  pub apart : (p q : ℕ) → p < 64 → q < 64 → slice_index row p ≡ slice_index row q → p ≡ q

-- what lies at p lies below at the place with the number in the row's entry p
abbrev pub renamed : List ℕ → (ℕ → ℕ) → ℕ → ℕ
renamed row counts p = if nat_lt p 64 then counts (slice_index row p) else 0

-- the numbers of a row by place, in the row that has them by the places below
pub record RowBelow (row numbers below : List ℕ) : Type 0 where
  pub long : length below ≡ 64
  pub placed : (p : ℕ) → p < 64 → slice_index below (slice_index row p) ≡ slice_index numbers p

-- why a row is refused
pub record RowRefused (given : List ℕ) (e : Refusal) : Type 0 where
  pub why : IsRenaming given → ⊥
  pub named : e ≡ NotARenaming

-- what load answers, from the row before it to the row after it
abbrev pub RenameSays : {X : Type 0} → List ℕ → List ℕ → Result X Refusal → List ℕ → Type 0
RenameSays given row (Ok x) row' = IsRenaming given × (row' ≡ given)
RenameSays given row (Err e) row' = RowRefused given e × (row' ≡ row)
