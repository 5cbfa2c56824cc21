-- What moving a block from one place of a board to another answers and leaves.
use Rattle.std.specs.Prelude.{◌≡◌, ℕ, ◌+◌, ◌-◌, ◌<◌, ◌≤◌, ◌⊎◌, Ok, Err, Result}
use Rattle.refusals.specs.declared.Refusal.{Refusal}
use Rattle.refusals.specs.declared.Refusal.TheVariants.{NoSuchPlace, PlaceEmpty}
use Rattle.theory.specs.Firing.{only_at}

-- the counts with one block moved
abbrev pub moved : ℕ → ℕ → (ℕ → ℕ) → ℕ → ℕ
moved from to counts p = counts p - only_at from p 1 + only_at to p 1

-- both places are on the board, and there is a block to move
pub record CanMove (from to : ℕ) (counts : ℕ → ℕ) : Type 0 where
  pub from_inside : from ≤ 63
  pub to_inside : to ≤ 63
  pub filled : 0 < counts from

-- why a move is refused
abbrev pub MoveRefused : ℕ → ℕ → (ℕ → ℕ) → Refusal → Type 0
MoveRefused from to counts e =
    (((63 < from) ⊎ (63 < to)) × (e ≡ NoSuchPlace))
    ⊎ ((from ≤ 63) × (to ≤ 63) × (counts from ≡ 0) × (e ≡ PlaceEmpty from))

-- which answer a move gets
abbrev pub MoveAnswers : {X : Type 0} → ℕ → ℕ → (ℕ → ℕ) → Result X Refusal → Type 0
MoveAnswers from to counts (Ok x) = CanMove from to counts
MoveAnswers from to counts (Err e) = MoveRefused from to counts e

-- the counts after it
abbrev pub counts_after_move : {X : Type 0} → ℕ → ℕ → Result X Refusal → (ℕ → ℕ) → ℕ → ℕ
counts_after_move from to (Ok x) counts = moved from to counts
counts_after_move from to (Err e) counts = counts

-- which answer a move gets that tells the count at the place moved to
abbrev pub MoveSays : ℕ → ℕ → (ℕ → ℕ) → Result ℕ Refusal → Type 0
MoveSays from to counts (Ok n) = CanMove from to counts × (n ≡ moved from to counts to)
MoveSays from to counts (Err e) = MoveRefused from to counts e
