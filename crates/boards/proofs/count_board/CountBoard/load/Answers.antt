use Rattle.std.proofs.Common.{◌≡◌, refl, ap, rules}
use Rattle.theory.specs.Rows.{at}
use Rattle.boards.proofs.count_board.CountBoard.load.Goals as goal

-- stated, so that a board that holds something else is refused by this fact
pub returns : goal.returns
returns c =
    let same : c.in_ok-counts.counts.now ≡ c.args.row.now = search rules in
    record { answer = record { long = search rules; lawful = search rules; counts_given = λ p. ap (λ row. at row p) same; spare_given = refl } }
