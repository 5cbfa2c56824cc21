use Rattle.std.proofs.Common.{◌≡◌, ℕ, ◌+◌, true, cond}
use Rattle.sets.specs.Flags.{has}
use Rattle.theory.specs.Rows.{at}
use Rattle.sets.proofs.Passed.{passed}
use Rattle.first_order.proofs.schedule.add_yields.Given as goal

abbrev pub invariant-loop-place : goal.invariant-loop-place
invariant-loop-place g l =
    ((p : ℕ) → at l.counts p ≡ at l.initial.counts p + cond (passed l.initial.place-iterator.rest l.place-iterator.rest p) ((g.N.Net.net l.net).yields l.step p) 0)
    × ((p : ℕ) → has l.place-iterator.rest p ≡ true → has l.initial.place-iterator.rest p ≡ true)
