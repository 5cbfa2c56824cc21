use Rattle.std.proofs.Common.{arith}
use Rattle.lines.proofs.Decimals.{one_more_long}
use Rattle.lines.proofs.room.length_of.Goals as goal

pub loop-number-preserved : goal.loop-number-preserved
loop-number-preserved c =
    let more = c.length_with_space-length.ensures in
    record {
      value = omega (arith, c.loop-number.invariant.value, more.value, one_more_long c.args.part.now c.loop-number.number-index c.loop-number-test.true);
      small = omega (arith, c.loop-number.invariant.small, more.small);
    }
