use Rattle.theory.specs.Nets.{LawfulNet}
use Rattle.std.proofs.Common.{ℕ, ltb, ◌&&◌, ap, ◌∙◌, rules, arith}
use Rattle.theory.specs.Rows.{at}
use Rattle.reached.proofs.Flagged.{below_end}
use Rattle.reached.proofs.leads.marked_in.Goals as goal

pub returns : goal.returns
returns g c p =
    let L : LawfulNet = record { net = g.N.Net.net c.args.net.now; law = g.met.N.Net.lawful c.args.net.now } in
    c.passing.ensures (λ k. ltb 0 (at c.args.counts.now k)) (λ k r l q. search rules) p
    ∙ below_end c.places.result p (ltb 0 (at c.args.counts.now p)) (omega (arith, L.law.few_places, c.places.ensures))
    ∙ ap (λ (v : ℕ). ltb p v && ltb 0 (at c.args.counts.now p)) c.places.ensures
