use Rattle.std.proofs.Common.{◌+◌, set, arith, length-set}
use Rattle.lines.proofs.Digits.{short_long, puts_short}
use Rattle.lines.proofs.numbers.put_short.Goals as goal

pub bounds-line-begin : goal.bounds-line-begin
bounds-line-begin c = omega (arith, short_long c.args.number c.requires.small)

pub bounds-line-tens : goal.bounds-line-tens
bounds-line-tens c =
    omega (arith, short_long c.args.number c.requires.small, length-set c.args.line.now c.args.begin c.digit.result, c.from.ensures)

pub bounds-line-ones : goal.bounds-line-ones
bounds-line-ones c =
    let first = set c.args.line.now c.args.begin c.digit.result in
    omega (
      arith,
      short_long c.args.number c.requires.small,
      length-set c.args.line.now c.args.begin c.digit.result,
      length-set first (c.args.begin + c.from.result) c.digit-2.result,
      c.from.ensures,
      c.from-2.ensures,
    )

pub returns : goal.returns
returns c =
    puts_short c.args.number c.digit.result c.digit-2.result c.digit-3.result c.args.line.now c.args.begin _ _ c.requires.small c.digit.ensures c.digit-2.ensures c.digit-3.ensures
    (omega (arith, c.from.ensures)) (omega (arith, c.from-2.ensures)) c.requires.room
