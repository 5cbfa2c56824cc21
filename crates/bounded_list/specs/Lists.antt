-- What the calls of a bounded list say, over the memory that it was lent and its length.
use Rattle.std.specs.Prelude.{◌≡◌, ℕ, ◌+◌, ◌<◌, ◌≤◌, List, ◌++◌, length, take, drop, Some}
use Rattle.std.specs.Prelude.{None, Ok, Err, Option, Result, slice_index_or, slice_set}
use Rattle.std.specs.Borrow.{Bor}
use Rattle.refusals.specs.declared.Refusal.{Refusal}
use Rattle.refusals.specs.declared.Refusal.TheVariants.{ListFull}
use Rattle.theory.specs.Rows.{found_below}

-- the element is written behind the last one, and nothing else is
pub record Added {T : Type 0} (x : T) (before : List T) (n : ℕ) (after : List T) (n' : ℕ) : Type 0 where
  pub room : n < length before
  pub memory : after ≡ slice_set before n x
  pub len : n' ≡ n + 1

-- the memory is full, and all is as it was
pub record Full {T : Type 0} (before : List T) (n : ℕ) (e : Refusal) (after : List T) (n' : ℕ) : Type 0 where
  pub full : n ≡ length before
  pub answer : e ≡ ListFull
  pub memory : after ≡ before
  pub len : n' ≡ n

-- what an add answers and leaves
abbrev pub Adds : {X T : Type 0} → T → List T → ℕ → Result X Refusal → List T → ℕ → Type 0
Adds x before n (Ok u) after n' = Added x before n after n'
Adds x before n (Err e) after n' = Full before n e after n'

-- the elements are what the first n entries of the memory hold; past these there is none
abbrev pub Gets : {T : Type 0} → List T → ℕ → ℕ → Option (Bor T) → Type 0
Gets memory n i (Some x) = (i < n) × (x.now ≡ slice_index_or memory i x.now)
Gets memory n i None = n ≤ i

-- a list with these items behind its last one, and the memory behind them as it was
pub record Extended {T : Type 0} (items before : List T) (n : ℕ) (after : List T) (n' : ℕ) : Type 0 where
  pub memory : after ≡ take n before ++ (items ++ drop (n + length items) before)
  pub len : n' ≡ n + length items

-- what an add of all that is found leaves; it asks for an entry for each number, found or not
abbrev pub AddsFound : {X T : Type 0} → (ℕ → Option T) → ℕ → List T → ℕ →
    Result X Refusal → List T → ℕ → Type 0
AddsFound at end before n (Ok u) after n' = (n + end ≤ length before)
    × Extended (found_below at end) before n after n'
AddsFound at end before n (Err e) after n' = (length before < n + end) × (e ≡ ListFull)
    × (after ≡ before) × (n' ≡ n)

-- what a whole row written through a list leaves to the lender: the row, and behind it what was there
abbrev pub WritesRow : {T : Type 0} → List T → List T → Result ℕ Refusal → List T → Type 0
WritesRow row before (Ok n) after = (n ≡ length row) × (n ≤ length before) × (after ≡ row ++ drop n before)
WritesRow row before (Err e) after = (length before < length row) × (e ≡ ListFull) × (after ≡ before)
