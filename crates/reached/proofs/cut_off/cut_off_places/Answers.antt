use Rattle.std.proofs.Common.{◌∙◌}
use Rattle.theory.specs.Nets.{LawfulNet}
use Rattle.theory.specs.Rows.{at}
use Rattle.sets.specs.Flags.{has}
use Rattle.reached.specs.Led.{has_at}
use Rattle.reached.proofs.Reaching.{cut_off_decided}
use Rattle.reached.proofs.cut_off.cut_off_places.Goals as goal

pub returns : goal.returns
returns g c p =
    let lawful : LawfulNet = record { net = g.N.Net.net c.args.net.now; law = g.met.N.Net.lawful c.args.net.now } in
    c.difference.ensures.answer p
    ∙ cut_off_decided lawful.net lawful.law (at c.args.counts.now) (at c.args.tally.now) (has_at c.leads_of.result) (has c.marked_in-marked.result)
    (λ q r _. c.leads_of.ensures q r)
    c.marked_in-marked.ensures
    _ _ p (c.used_by.ensures p) (c.reached_from.ensures p)
