-- What one pass over the slots finds and leaves, and what take and put mean for single slots.
use Rattle.std.specs.Prelude.{◌≡◌, ℕ, ◌+◌, ◌<◌, ◌⊎◌, List, length, ◌≢◌, slice_index}
use Rattle.std.specs.Prelude.{slice_index_or, slice_set}
use Rattle.boards.specs.Boards.{Taken, Put}
use Rattle.slot_board.specs.Slots.{occurs, counts_of, lowest_with, filled}

-- no slot holds the number
abbrev pub Absent : ℕ → List ℕ → Type 0
Absent held slots = (k : ℕ) → k < length slots → slice_index slots k ≢ held

-- the slot holds the number, and no lower one does
pub record FirstAt (held : ℕ) (slots : List ℕ) (i : ℕ) : Type 0 where
  pub inside : i < length slots
  pub holds : slice_index_or slots i 0 ≡ held
  pub before : (k : ℕ) → k < i → slice_index slots k ≢ held

-- some empty slots are filled with the number, and none below an empty one that stays
pub record HighestFilled (held : ℕ) (slots slots' : List ℕ) : Type 0 where
  pub blocks_kept : (k : ℕ) → (slice_index slots k ≢ 0) → slice_index slots' k ≡ slice_index slots k
  pub empty_or_held : (k : ℕ) → slice_index slots k ≡ 0 →
      (slice_index slots' k ≡ 0) ⊎ (slice_index slots' k ≡ held)
  pub from_the_top : (j k : ℕ) → j < k → k < length slots → slice_index slots' k ≡ 0 →
      slice_index slots' j ≡ slice_index slots j

-- the place's lowest slot is emptied, and what that makes of the counts and of spare
pub record TakenSlot (place : ℕ) (slots slots' : List ℕ) : Type 0 where
  pub emptied : slots' ≡ slice_set slots (lowest_with (place + 1) slots) 0
  pub lowest : FirstAt (place + 1) slots (lowest_with (place + 1) slots)
  pub meaning : Taken place (counts_of slots) (occurs 0 slots) (counts_of slots') (occurs 0 slots')

-- n empty slots are filled, and what that makes of the counts and of spare
pub record PutSlots (place n : ℕ) (slots slots' : List ℕ) : Type 0 where
  pub filled_down : slots' ≡ filled (place + 1) n slots
  pub highest : HighestFilled (place + 1) slots slots'
  pub meaning : Put place n (counts_of slots) (occurs 0 slots) (counts_of slots') (occurs 0 slots')
