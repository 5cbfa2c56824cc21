use Rattle.theory.specs.Nets.{LawfulNet}
use Rattle.std.proofs.Common.{◌≡◌, sym, ap, ◌∙◌, arith}
use Rattle.theory.specs.Rows.{at}
use Rattle.theory.specs.Sums.{sum_to}
use Rattle.theory.proofs.SumLaws.{sum_to_suc, sum_to_zero, sum_to_same}
use Rattle.answers.proofs.Histories.{sum_past}
use Rattle.tallies.proofs.asked.yields_of.Goals as goal

pub loop-blocks-init : goal.loop-blocks-init
loop-blocks-init g c = (sym (sum_to_zero _), omega arith)

pub loop-blocks-preserved : goal.loop-blocks-preserved
loop-blocks-preserved g c =
    let N : LawfulNet = record { net = g.N.Net.net c.args.net.now; law = g.met.N.Net.lawful c.args.net.now } in (
      omega (arith, sum_to_suc (at c.read_yields.new.row) c.loop-blocks.blocks-index, c.loop-blocks.invariant.0, c.from-sum.ensures),
      omega (arith, c.loop-blocks.invariant.1, c.from-sum.ensures, c.read_yields.ensures.row c.loop-blocks.blocks-index, N.law.yields_small c.args.step c.loop-blocks.blocks-index),
    )

pub returns-clause-answer : goal.returns-clause-answer
returns-clause-answer g c =
    let N : LawfulNet = record { net = g.N.Net.net c.args.net.now; law = g.met.N.Net.lawful c.args.net.now } in
    let all : c.loop-blocks.blocks-index ≡ 64 = omega arith in
    c.loop-blocks.invariant.0
    ∙ ap (sum_to (at c.read_yields.new.row)) all
    ∙ sum_to_same (at c.read_yields.new.row) (N.net.yields c.args.step) 64 (λ p _. c.read_yields.ensures.row p)
    ∙ sum_past (N.net.yields c.args.step) N.net.places 64 N.law.few_places (λ p. N.law.no_yield_outside_places c.args.step p)
