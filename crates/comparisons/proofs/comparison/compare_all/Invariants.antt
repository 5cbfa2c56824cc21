use Rattle.std.proofs.Common.{length, ◌≤◌}
use Rattle.comparisons.proofs.comparison.compare_all.Given as goal

abbrev pub invariant-loop-left : goal.invariant-loop-left
invariant-loop-left g l = goal.F-IsAlwaysCallable g l.compare × (l.left ≤ length l.lines)

abbrev pub decreases-loop-left : goal.decreases-loop-left
decreases-loop-left g l = l.left
