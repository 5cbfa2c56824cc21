use Rattle.std.proofs.Common.{true, ◌≡◌, ℕ, ◌&&◌, ◌||◌, eqb}
use Rattle.sets.specs.Flags.{has}
use Rattle.sets.proofs.Passed.{passed}
use Rattle.reached.specs.Led.{has_at}
use Rattle.reached.proofs.origins.put_in.Given as goal

abbrev pub invariant-loop-place : goal.invariant-loop-place
invariant-loop-place l =
    ((p q : ℕ) → has_at l.before p q ≡ (has_at l.initial.before p q || (passed l.initial.place-iterator.rest l.place-iterator.rest p && eqb q l.origin)))
    × ((p : ℕ) → has l.place-iterator.rest p ≡ true → has l.initial.place-iterator.rest p ≡ true)
