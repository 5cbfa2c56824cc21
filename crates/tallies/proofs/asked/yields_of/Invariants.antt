use Rattle.std.proofs.Common.{◌≡◌, ◌*◌, ◌≤◌}
use Rattle.theory.specs.Rows.{at}
use Rattle.theory.specs.Sums.{sum_to}
use Rattle.tallies.proofs.asked.yields_of.Given as goal

-- the sum of the blocks so far, each a byte
abbrev pub invariant-loop-blocks : goal.invariant-loop-blocks
invariant-loop-blocks g l = (l.sum ≡ sum_to (at l.blocks-items) l.blocks-index) × (l.sum ≤ 255 * l.blocks-index)
