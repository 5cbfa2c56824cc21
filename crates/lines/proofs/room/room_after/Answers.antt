use Rattle.std.proofs.Common.{arith}
use Rattle.lines.proofs.Decimals.{both_long}
use Rattle.lines.proofs.room.room_after.Goals as goal

pub returns-in_err-left : goal.returns-in_err-left
returns-in_err-left c =
    let rest = c.loop-rest.rest.now in
    let split = both_long rest c.split_at.result.0.now c.split_at.result.1.now _ c.split_at.ensures.front c.split_at.ensures.back in
    rw c.from_residual.ensures (omega (arith, c.in_err-left.ensures, c.from.ensures, c.length_of.ensures, c.loop-rest.invariant, split))

pub loop-rest-preserved : goal.loop-rest-preserved
loop-rest-preserved c =
    let rest = c.loop-rest.rest.now in
    let split = both_long rest c.split_at.result.0.now c.split_at.result.1.now _ c.split_at.ensures.front c.split_at.ensures.back in
    omega (arith, c.in_ok-left.ensures, c.from.ensures, c.length_of.ensures, c.loop-rest.invariant, split)
