use Rattle.layers.proofs.Seen.{Seen}
use Rattle.layers.proofs.renaming.is_renaming.Given as goal

abbrev pub invariant-loop-place : goal.invariant-loop-place
invariant-loop-place l = Seen l.row l.place-index l.seen
