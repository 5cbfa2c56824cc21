use Rattle.std.proofs.Common.{◌≡◌, ◌∙◌, sum, rules, arith}
use Rattle.std.proofs.iter.runs.Sources.{sums}
use Rattle.boards.proofs.RowSums.{sum_row, sum_row_le}
use Rattle.boards.proofs.count_board.total.Goals as goal

pub sum-requires-clause-fits : goal.sum-requires-clause-fits
sum-requires-clause-fits c = search (rules, sums)

pub returns-clause-value : goal.returns-clause-value
returns-clause-value c =
    let e : c.sum.result ≡ sum c.args.counts.now = search rules in e ∙ sum_row c.args.counts.now 64 c.told-counts

pub returns-clause-bound : goal.returns-clause-bound
returns-clause-bound c =
    let e : c.sum.result ≡ sum c.args.counts.now = search rules in omega (arith, e, sum_row c.args.counts.now 64 c.told-counts, sum_row_le c.args.counts.now 4294967295 64 (λ k. omega (arith, c.fits-counts k)))
