use Rattle.std.proofs.Common.{drop}
use Rattle.firings.proofs.WholeOrders.{LeftOf}
use Rattle.firings.proofs.whole_order.move_each.Given as goal

abbrev pub invariant-loop-step : goal.invariant-loop-step
invariant-loop-step g l =
    let H = g.B.Board.counts in
    let R = g.B.Board.spare in
    LeftOf (g.N.Net.net l.net) l.order (H l.initial.board) (R l.initial.board) (drop l.step-index l.order) (H l.board) (R l.board)
