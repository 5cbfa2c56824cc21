use Rattle.std.proofs.Common.{◌≡◌, ℕ, ◌&&◌, ◌||◌, eqb, ltb}
use Rattle.sets.specs.Flags.{has}
use Rattle.theory.specs.Rows.{at}
use Rattle.theory.specs.Tests.{any_below}
use Rattle.reached.proofs.cut_off.used_by.Given as goal

abbrev pub invariant-loop-step : goal.invariant-loop-step
invariant-loop-step g l =
    let M = (g.N.Net.net l.net) in
    (p : ℕ) → has l.used p ≡ any_below (λ t. ltb 0 (at l.tally t) && (eqb (M.input t) p || ltb 0 (M.yields t p))) l.step
