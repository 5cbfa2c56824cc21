use Rattle.layers.proofs.Below.{PlacedTo}
use Rattle.layers.proofs.renaming.row_below.Given as goal

abbrev pub invariant-loop-place : goal.invariant-loop-place
invariant-loop-place l = PlacedTo l.place l.row l.numbers l.below
