use Rattle.std.proofs.Common.{◌≡◌, ℕ, true, ◌*◌}
use Rattle.sets.specs.Flags.{has}
use Rattle.sets.proofs.Passed.{passed}
use Rattle.theory.specs.Rows.{at}
use Rattle.tallies.proofs.Added.{Added}
use Rattle.tallies.proofs.by_place.add_yields.Given as goal

abbrev pub invariant-loop-place : goal.invariant-loop-place
invariant-loop-place g l =
    Added (at l.initial.row) (λ p. l.times * (g.N.Net.net l.net).yields l.step p) (passed l.initial.place-iterator.rest l.place-iterator.rest) l.row
    × ((p : ℕ) → has l.place-iterator.rest p ≡ true → has l.initial.place-iterator.rest p ≡ true)
