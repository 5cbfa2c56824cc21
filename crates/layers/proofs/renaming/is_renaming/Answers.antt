use Rattle.std.proofs.Common.{arith}
use Rattle.layers.proofs.Seen.{seen_none, seen_more, seen_all}
use Rattle.layers.proofs.renaming.is_renaming.Goals as goal

pub loop-place-init : goal.loop-place-init
loop-place-init c = seen_none c.args.row.now

pub loop-place-preserved : goal.loop-place-preserved
loop-place-preserved c =
    let loop = c.loop-place in
    rw c.from-i.ensures (seen_more c.args.row.now loop.place-index loop.seen loop.invariant (omega arith) (rw c.from-i.ensures at c.if-seen-i.false))

pub returns : goal.returns
returns c =
    let loop = c.loop-place in
    seen_all c.args.row.now loop.place-index loop.seen loop.invariant c.if-row-ne-PLACES.false (omega arith)
