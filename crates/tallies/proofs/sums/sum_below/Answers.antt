use Rattle.std.proofs.Common.{sym, arith}
use Rattle.theory.proofs.SumLaws.{sum_to_suc, sum_to_zero}
use Rattle.tallies.proofs.sums.sum_below.Goals as goal

pub loop-number-init : goal.loop-number-init
loop-number-init g c = (λ f h. sym (sum_to_zero f), omega arith)

pub loop-number-preserved : goal.loop-number-preserved
loop-number-preserved g c = (
  λ f h. omega (arith, sum_to_suc f c.loop-number.number, c.loop-number.invariant.0 f h, h _ _ c.loop-number-test.true c.term.ensures, c.from-sum.ensures),
  omega (arith, c.loop-number.invariant.1, c.term.type_inv, c.from-sum.ensures),
)
