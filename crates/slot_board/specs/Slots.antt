-- What slots say of the counts and of spare, and which of them change by a take and by a put.
-- The number of a slot is 0 where it has no block, else one more than the place of its block.
use Rattle.std.specs.Prelude.{ℕ, suc, ◌+◌, if◌then◌else◌, ◌&&◌, List, [], ◌∷◌, Ok, Err, Result}
use Rattle.std.specs.Prelude.{◌==◌, nat_lt, slice_set}
use Rattle.theory.specs.Firing.{times}
use Rattle.refusals.specs.declared.Refusal.{Refusal}

-- how many slots hold a number: at 0, how many are empty; not unfolded by itself, as there are 4,096 slots
unfoldable pub occurs : ℕ → List ℕ → ℕ
occurs held slots = times slots held

-- a place has a block in each slot that bears its number and 1
abbrev pub counts_of : List ℕ → ℕ → ℕ
counts_of slots place = occurs (place + 1) slots

-- the lowest slot that holds a number; past the last slot where none does
unfoldable pub lowest_with : ℕ → List ℕ → ℕ
lowest_with held [] = 0
lowest_with held (slot ∷ slots) = if slot == held then 0 else suc (lowest_with held slots)

-- the slots with n empty ones filled, from the highest down: a slot is filled where it is empty
-- and fewer than n of the slots above it are
unfoldable pub filled : ℕ → ℕ → List ℕ → List ℕ
filled held n [] = []
filled held n (slot ∷ slots) =
    (if slot == 0 && nat_lt (occurs 0 slots) n then held else slot) ∷ filled held n slots

-- a take clears the first slot with a block of the place
abbrev pub slots_after_take : {X : Type 0} → ℕ → Result X Refusal → List ℕ → List ℕ
slots_after_take place (Ok x) slots = slice_set slots (lowest_with (place + 1) slots) 0
slots_after_take place (Err e) slots = slots

-- a put uses the n empty slots nearest to the end
abbrev pub slots_after_put : {X : Type 0} → ℕ → ℕ → Result X Refusal → List ℕ → List ℕ
slots_after_put place n (Ok x) slots = filled (place + 1) n slots
slots_after_put place n (Err e) slots = slots
