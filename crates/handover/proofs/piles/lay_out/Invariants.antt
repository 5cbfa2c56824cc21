use Rattle.std.proofs.Common.{◌≡◌, ℕ, ◌+◌, ◌<◌, ◌≤◌}
use Rattle.theory.specs.Rows.{at}
use Rattle.handover.proofs.piles.lay_out.Given as goal

-- the places so far have the start's blocks, and the others not yet
abbrev pub invariant-loop-place : goal.invariant-loop-place
invariant-loop-place g l =
    ((p : ℕ) → p < l.place → g.B.Board.counts l.board p ≡ g.B.Board.counts l.initial.board p + at l.start p)
    × ((p : ℕ) → l.place ≤ p → g.B.Board.counts l.board p ≡ g.B.Board.counts l.initial.board p)
