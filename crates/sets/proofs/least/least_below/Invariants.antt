use Rattle.std.proofs.Common.{ℕ, ◌<◌, false}
use Rattle.sets.proofs.least.least_below.Given as goal

-- no number so far passes
abbrev pub invariant-loop-number : goal.invariant-loop-number
invariant-loop-number g l = (k : ℕ) → k < l.number → goal.F-post g l.test k false
