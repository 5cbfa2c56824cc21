use Rattle.std.proofs.Common.{length, arith}
use Rattle.theory.specs.Rows.{at}
use Rattle.boards.specs.Boards.{Unchanged, MovedAll}
use Rattle.answers.specs.States.{yields_asked}
use Rattle.theory.specs.Tallies.{spent, gained}
use Rattle.firings.proofs.WholeOrders.{order_fits, spare_after_each, counts_after_all, spare_after_all}
use Rattle.firings.proofs.whole_order.move_order.Goals as goal

pub move_each-requires-clause-room : goal.move_each-requires-clause-room
move_each-requires-clause-room g c =
    let b = c.args.board.now in
    let b' = c.move_at_once.new.board in
    let same : Unchanged (g.B.Board.counts b) (g.B.Board.spare b) (g.B.Board.counts b') (g.B.Board.spare b') = c.if-not-move_at_once.ensures in
    omega (arith, order_fits (g.N.Net.net c.args.flow.now.net.now) (g.B.Board.counts b) (at c.args.flow.now.tally.now) c.args.order.now c.requires.does (g.B.Board.spare b) c.requires.room, same.spare_kept)

pub returns-then-not-move_at_once-clause-spare :
    goal.returns-then-not-move_at_once-clause-spare
returns-then-not-move_at_once-clause-spare g c =
    let b = c.args.board.now in
    let b' = c.move_at_once.new.board in
    let same : Unchanged (g.B.Board.counts b) (g.B.Board.spare b) (g.B.Board.counts b') (g.B.Board.spare b') = c.if-not-move_at_once.ensures in
    spare_after_each (g.N.Net.net c.args.flow.now.net.now) (g.B.Board.counts b) (at c.args.flow.now.tally.now) c.args.order.now c.requires.does
    (g.B.Board.spare b) c.requires.room (g.B.Board.spare c.move_each.new.board) (omega (arith, c.move_each.ensures.1, same.spare_kept))

pub returns-else-not-move_at_once-clause-counts : goal.returns-else-not-move_at_once-clause-counts
returns-else-not-move_at_once-clause-counts g c =
    let N = (g.N.Net.net c.args.flow.now.net.now) in
    let x = at c.args.flow.now.tally.now in
    let b = c.args.board.now in
    let b' = c.move_at_once.new.board in
    let all : MovedAll (spent N x) (gained N x) (length c.args.order.now) (yields_asked N x) (g.B.Board.counts b) (g.B.Board.spare b) (g.B.Board.counts b') (g.B.Board.spare b') = c.if-not-move_at_once.ensures in
    counts_after_all N (g.B.Board.counts b) x c.args.order.now c.requires.does (g.B.Board.spare b) c.requires.room (g.B.Board.counts b') all.counts_moved

pub returns-else-not-move_at_once-clause-spare : goal.returns-else-not-move_at_once-clause-spare
returns-else-not-move_at_once-clause-spare g c =
    let N = (g.N.Net.net c.args.flow.now.net.now) in
    let x = at c.args.flow.now.tally.now in
    let b = c.args.board.now in
    let b' = c.move_at_once.new.board in
    let all : MovedAll (spent N x) (gained N x) (length c.args.order.now) (yields_asked N x) (g.B.Board.counts b) (g.B.Board.spare b) (g.B.Board.counts b') (g.B.Board.spare b') = c.if-not-move_at_once.ensures in
    spare_after_all N (g.B.Board.counts b) x c.args.order.now c.requires.does (g.B.Board.spare b) c.requires.room (g.B.Board.spare b') all.spare_moved
