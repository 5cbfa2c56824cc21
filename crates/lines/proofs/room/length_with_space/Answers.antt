use Rattle.std.proofs.Common.{arith}
use Rattle.lines.proofs.Digits.{any_long}
use Rattle.lines.proofs.room.length_with_space.Goals as goal

pub returns-clause-value : goal.returns-clause-value
returns-clause-value c =
    omega (arith, any_long c.args.number (omega arith), c.from.ensures, c.from-2.ensures, c.from-3.ensures, c.from-4.ensures)
