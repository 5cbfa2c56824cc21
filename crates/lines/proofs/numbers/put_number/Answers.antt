use Rattle.std.proofs.Common.{◌/◌, ◌%◌, ap, decimal, length, arith, length-append, sym}
use Rattle.lines.specs.Lines.{three_digits}
use Rattle.lines.proofs.Digits.{decimal_long}
use Rattle.lines.proofs.Putting.{puts_both, puts_like}
use Rattle.lines.proofs.numbers.put_number.Goals as goal

pub put_short-end-requires-clause-room : goal.put_short-end-requires-clause-room
put_short-end-requires-clause-room c =
    let n = c.args.number in
    omega (arith, ap length (decimal_long n c.if-number-lt1000.false (omega arith)), length-append (decimal (n / 1000)) (three_digits (n % 1000)))

pub put_three-requires-clause-room : goal.put_three-requires-clause-room
put_three-requires-clause-room c =
    let n = c.args.number in
    omega (arith, c.put_short-end.ensures.ends, c.put_short-end.auto.line, ap length (decimal_long n c.if-number-lt1000.false (omega arith)), length-append (decimal (n / 1000)) (three_digits (n % 1000)))

pub returns-else-number-lt1000 : goal.returns-else-number-lt1000
returns-else-number-lt1000 c =
    let n = c.args.number in
    let line = c.args.line.now in
    let front = decimal (n / 1000) in
    let behind = three_digits (n % 1000) in
    let l₁ = c.put_short-end.new.line in
    let n₁ = c.put_short-end.result in
    let l₂ = c.put_three.new.line in
    let n₂ = c.put_three.result in
    puts_like _ (decimal n) line c.args.begin l₂ n₂ (sym (decimal_long n c.if-number-lt1000.false (omega arith)))
    (puts_both front behind line c.args.begin l₁ n₁ l₂ n₂ c.put_short-end.ensures c.put_three.ensures)
