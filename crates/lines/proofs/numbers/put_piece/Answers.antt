use Rattle.std.proofs.Common.{◌+◌, [], ◌∷◌, length, set, decimal, arith}
use Rattle.lines.proofs.Digits.{short_long, byte_small}
use Rattle.lines.proofs.Pieces.{puts_four, puts_less}
use Rattle.lines.proofs.Putting.{puts_like}
use Rattle.lines.proofs.numbers.put_piece.Goals as goal

pub returns : goal.returns
returns c =
    let n = c.args.number in
    let line = c.args.line.now in
    let begin = c.args.begin in
    let p = c.piece_of-space.result in
    let all = set (set (set (set line begin p.0) (begin + 1) p.1) (begin + 2) p.2) (begin + 3) p.3 in
    let long = short_long n (omega (arith, c.requires.small)) in
    let end = begin + 2 + c.from.result + c.from-2.result in
    puts_like _ (32 ∷ decimal n) line begin all end c.piece_of-space.ensures
    (puts_less (p.0 ∷ p.1 ∷ p.2 ∷ p.3 ∷ []) line begin all (begin + 4) (1 + length (decimal n)) end (omega (arith, c.requires.room))
    (puts_four p.0 p.1 p.2 p.3 line begin c.requires.room)
    (omega (arith, long, byte_small 100 n, byte_small 10 n))
    (omega (arith, long, c.from.ensures, c.from-2.ensures)))
