use Rattle.theory.specs.Nets.{LawfulNet}
use Rattle.std.proofs.Common.{rules, arith}
use Rattle.answers.specs.States.{state_of, target_of}
use Rattle.sittings.proofs.DoneRows.{counts_fit, added_total}
use Rattle.sittings.proofs.Resumed.{fired_by_net, sizes_of_accepted, refused_resume}
use Rattle.sittings.proofs.sitting.Sitting.resume.Goals as goal

pub returns-in_err-length-clause-after : goal.returns-in_err-length-clause-after
returns-in_err-length-clause-after g c =
    let a = c.args.self.now in
    let s = state_of (g.B.Board.counts a.board) (g.B.Board.spare a.board) a.done in
    let T = target_of c.args.target.numbers.now c.args.target.kind in
    refused_resume (g.N.Net.net a.net) s c.args.tally.now T c.args.order.now _ _ _ _ (fired_by_net c.read.ensures c.in_err-length.was c.fire_tally.ensures)

pub with_tally-self-requires-clause-fits : goal.with_tally-self-requires-clause-fits
with_tally-self-requires-clause-fits g c =
    let a = c.args.self.now in
    let N : LawfulNet = record { net = g.N.Net.net a.net; law = g.met.N.Net.lawful a.net } in
    let fits = sizes_of_accepted N.law c.read.ensures c.in_ok-length.was c.fire_tally.ensures in
    counts_fit a.done c.args.tally.now N.net.steps a.long fits.rows.tally_long N.law.few_steps fits.within_limit

pub invariant_of-self-2 : goal.invariant_of-self-2
invariant_of-self-2 g c =
    let a = c.args.self.now in
    let N : LawfulNet = record { net = g.N.Net.net a.net; law = g.met.N.Net.lawful a.net } in
    let fits = sizes_of_accepted N.law c.read.ensures c.in_ok-length.was c.fire_tally.ensures in
    record {
      long = search rules;
      total = omega (arith, added_total a.done c.args.tally.now c.with_tally-self.result N.net.steps fits.rows.tally_long N.law.few_steps c.with_tally-self.ensures, fits.within_limit);
    }
