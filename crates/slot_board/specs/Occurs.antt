-- The two facts that the law of the slot board cites.
use Rattle.std.specs.Prelude.{◌≡◌, ℕ, zero, suc, ◌+◌, ◌<◌, ◌≤◌, List, [], ◌∷◌, length}
use Rattle.std.specs.Prelude.{◌≢◌, slice_index, refl}
use Rattle.std.proofs.Common.{⊎_elim, arith}
use Rattle.std.proofs.lemmas.Bool.{cases_eq}
use Rattle.theory.specs.Sums.{sum_to}
use Rattle.theory.specs.Firing.{one_at}
use Rattle.theory.proofs.SumLaws.{sum_to_add, sum_to_none}
use Rattle.theory.proofs.TallySums.{one_same, one_other}
use Rattle.slot_board.specs.Slots.{occurs, counts_of}

-- a number that no slot holds
pub occurs_absent : (held : ℕ) (slots : List ℕ) →
    ((k : ℕ) → k < length slots → slice_index slots k ≢ held) → occurs held slots ≡ 0
unfolding occurs
occurs_absent held [] h = refl
occurs_absent held (slot ∷ slots) h =
    omega (arith, one_other slot held (h 0 (omega arith)), occurs_absent held slots (λ k l. h (suc k) (omega arith)))

-- a slot holds at most one of the numbers from 1 on
one_place : (slot n : ℕ) → sum_to (λ p. one_at slot (p + 1)) n + one_at slot 0 ≤ 1
unfolding sum_to
one_place slot zero =
    ⊎_elim (λ (e : slot ≡ 0). omega (arith, one_same slot 0 e))
    (λ ne. omega (arith, one_other slot 0 ne)) (cases_eq slot 0)
one_place slot (suc n) =
    ⊎_elim
    (λ (e : slot ≡ n + 1).
    omega (
      arith,
      one_same slot (n + 1) e,
      one_other slot 0 (λ z. omega arith),
      sum_to_none (λ p. one_at slot (p + 1)) n (λ p l. one_other slot (p + 1) (λ z. omega arith)),
    ))
    (λ ne. omega (arith, one_other slot (n + 1) ne, one_place slot n))
    (cases_eq slot (n + 1))

-- the blocks and the empty slots are no more than the slots
pub all_le_length : (n : ℕ) (slots : List ℕ) → sum_to (counts_of slots) n + occurs 0 slots ≤ length slots
unfolding occurs
all_le_length n [] = omega (arith, sum_to_none (counts_of []) n (λ p l. refl))
all_le_length n (slot ∷ slots) =
    let split = sum_to_add (λ p. one_at slot (p + 1)) (counts_of slots) n in
    omega (arith, split, one_place slot n, all_le_length n slots)
