use Rattle.std.proofs.Common.{◌+◌, ◌∷◌, ◌++◌, get_or, take, decimal, arith}
use Rattle.lines.specs.Lines.{numbers}
use Rattle.lines.proofs.Putting.{puts_both, puts_like}
use Rattle.lines.proofs.Decimals.{numbers_more, one_more_long, front_short}
use Rattle.lines.proofs.numbers.put_numbers.Goals as goal

pub put_after_space-end-requires : goal.put_after_space-end-requires
put_after_space-end-requires c =
    let row = c.args.row.now in
    let i = c.loop-number.number-index in
    omega (arith, c.loop-number.invariant.ends, c.loop-number.auto.line, one_more_long row i c.loop-number-test.true, front_short row (i + 1))

pub loop-number-preserved : goal.loop-number-preserved
loop-number-preserved c =
    let row = c.args.row.now in
    let i = c.loop-number.number-index in
    let n = get_or row i 0 in
    let line = c.args.line.now in
    let begin = c.args.begin in
    let m = c.put_after_space-end.new.line in
    let e = c.put_after_space-end.result in
    puts_like (numbers (take i row) ++ (32 ∷ decimal n)) (numbers (take (i + 1) row)) line begin m e (numbers_more row i c.loop-number-test.true)
    (puts_both (numbers (take i row)) (32 ∷ decimal n) line begin c.loop-number.line c.loop-number.end m e c.loop-number.invariant c.put_after_space-end.ensures)
