use Rattle.std.proofs.Common.{◌∙◌}
use Rattle.theory.specs.Rows.{at}
use Rattle.tallies.proofs.finals.Asked.is_missed_by.Goals as goal

pub returns : goal.returns
returns g c =
    let asked = c.args.self.now in
    c.is_missed.ensures ∙ c.compared_by.ensures
    (g.N.Net.net asked.flow.now.net.now) (at asked.counts.now) (at asked.flow.now.tally.now)
    c.args.target.numbers.now c.args.place
