-- How the room that an allowance grants changes with its calls, and what becomes of the board below.
use Rattle.std.specs.Prelude.{ℕ, ◌+◌, ◌-◌, min, Bool, true, false, Ok, Err, Result}
use Rattle.refusals.specs.declared.Refusal.{Refusal}
use Rattle.boards.specs.Boards.{board_limit, Put, Unchanged}

-- a block that was taken may be put down again, so there is room for one more, up to what a board can have
abbrev pub left_after_take : {X : Type 0} → Result X Refusal → ℕ → ℕ
left_after_take (Ok x) left = min (left + 1) board_limit
left_after_take (Err e) left = left

-- what was put down needs its room
abbrev pub left_after_put : {X : Type 0} → ℕ → Result X Refusal → ℕ → ℕ
left_after_put n (Ok x) left = left - n
left_after_put n (Err e) left = left

-- of many moves in one go, what was taken makes room and what was put needs it
abbrev pub left_after_move_all : ℕ → ℕ → Bool → ℕ → ℕ
left_after_move_all all_taken all_put true left = min (left + all_taken - all_put) board_limit
left_after_move_all all_taken all_put false left = left

-- an accepted put is made below too, and a refused one changes nothing there
abbrev pub PutLeaves : {X : Type 0} → ℕ → ℕ → (ℕ → ℕ) → ℕ → Result X Refusal →
    (ℕ → ℕ) → ℕ → Type 0
PutLeaves place n counts spare (Ok x) counts' spare' = Put place n counts spare counts' spare'
PutLeaves place n counts spare (Err e) counts' spare' = Unchanged counts spare counts' spare'
