use Rattle.std.proofs.Common.{◌≡◌, ◌++◌, length}
use Rattle.words.specs.Slots.{slots_of}
use Rattle.words.proofs.slots_of.Given as goal

abbrev pub invariant-loop-left : goal.invariant-loop-left
invariant-loop-left l = l.slots.items ++ slots_of l.left ≡ slots_of l.fn.runs

abbrev pub decreases-loop-left : goal.decreases-loop-left
decreases-loop-left l = length l.left
