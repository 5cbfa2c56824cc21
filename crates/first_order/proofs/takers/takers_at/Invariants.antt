use Rattle.std.proofs.Common.{◌≡◌, ℕ, ◌≤◌, Bool, true, false, ◌&&◌, eqb}
use Rattle.sets.specs.Flags.{has}
use Rattle.reached.specs.Led.{has_at}
use Rattle.sets.proofs.Passed.{passed}
use Rattle.first_order.proofs.takers.takers_at.Given as goal

-- the steps that take at the places passed so far
abbrev pub invariant-loop-place : goal.invariant-loop-place
invariant-loop-place l =
    ((left : ℕ → Bool) (input : ℕ → ℕ) → ((p t : ℕ) → has_at l.takers p t ≡ (left t && eqb (input t) p)) →
    (t : ℕ) → has l.steps t ≡ (left t && passed l.initial.place-iterator.rest l.place-iterator.rest (input t)))
    × ((t : ℕ) → 128 ≤ t → has l.steps t ≡ false)
    × ((p : ℕ) → has l.place-iterator.rest p ≡ true → has l.initial.place-iterator.rest p ≡ true)
