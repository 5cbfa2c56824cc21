-- What the slot board's load answers and leaves.
use Rattle.std.specs.Prelude.{◌≡◌, ℕ, ◌≤◌, List, length, Ok, Err, Result, slice_index}
use Rattle.refusals.specs.declared.Refusal.{Refusal}
use Rattle.refusals.specs.declared.Refusal.TheVariants.{BoardRowUnfit}

-- a byte for each slot, and each for an empty one (0) or for a place of the board (its number and 1)
pub record SlotsFit (bytes : List ℕ) : Type 0 where
  pub long : length bytes ≡ 4096
  pub small : (k : ℕ) → slice_index bytes k ≤ 64

-- why bytes are refused
pub record BytesRefused (bytes : List ℕ) (e : Refusal) : Type 0 where
  pub why : SlotsFit bytes → ⊥
  pub named : e ≡ BoardRowUnfit

-- what load answers, from the slots before it to the slots after it
abbrev pub SlotLoadSays : {X : Type 0} → List ℕ → List ℕ → Result X Refusal → List ℕ → Type 0
SlotLoadSays bytes slots (Ok x) slots' = SlotsFit bytes × (slots' ≡ bytes)
SlotLoadSays bytes slots (Err e) slots' = BytesRefused bytes e × (slots' ≡ slots)
