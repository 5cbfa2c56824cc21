use Rattle.std.proofs.Common.{rules, ap, ◌∙◌}
use Rattle.theory.specs.Rows.{at}
use Rattle.theory.specs.Sums.{sum_to}
use Rattle.theory.specs.Tallies.{gained}
use Rattle.tallies.proofs.Yielded.{gained_in_all}
use Rattle.tallies.proofs.flow.Flow.yields_asked.Goals as goal

pub returns-clause-answer : goal.returns-clause-answer
returns-clause-answer g c =
    let N = (g.N.Net.net c.args.self.now.net.now) in
    let x = at c.args.self.now.tally.now in
    c.sum_below.ensures.answer (gained N x) (λ k r l e. search rules)
    ∙ ap (sum_to (gained N x)) (c.from.ensures ∙ c.places.ensures)
    ∙ gained_in_all N x
