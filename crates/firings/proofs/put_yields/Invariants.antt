use Rattle.std.proofs.Common.{◌≡◌, ℕ, true}
use Rattle.sets.specs.Flags.{has}
use Rattle.sets.proofs.Passed.{passed}
use Rattle.firings.proofs.Puts.{PutIn}
use Rattle.firings.proofs.put_yields.Given as goal

abbrev pub invariant-loop-place : goal.invariant-loop-place
invariant-loop-place g l =
    let N = (g.N.Net.net l.net) in
    PutIn N.places (g.B.Board.counts l.initial.board) (g.B.Board.spare l.initial.board) (N.yields l.step) (passed l.initial.place-iterator.rest l.place-iterator.rest) (g.B.Board.counts l.board) (g.B.Board.spare l.board)
    × ((p : ℕ) → has l.place-iterator.rest p ≡ true → has l.initial.place-iterator.rest p ≡ true)
