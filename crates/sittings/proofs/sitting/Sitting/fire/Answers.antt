use Rattle.theory.specs.Nets.{LawfulNet}
use Rattle.std.proofs.Common.{◌<◌, ◌∙◌, arith, length-set}
use Rattle.theory.specs.Rows.{at}
use Rattle.theory.proofs.SumLaws.{le_sum_to}
use Rattle.sittings.proofs.DoneRows.{one_more_total}
use Rattle.sittings.proofs.sitting.Sitting.fire.Goals as goal

pub overflow_add-self : goal.overflow_add-self
overflow_add-self g c =
    let s = c.args.self.now in
    let N : LawfulNet = record { net = g.N.Net.net s.net; law = g.met.N.Net.lawful s.net } in
    let inside : c.from.result < 128 = omega (arith, N.law.few_steps, c.in-Some.ensures.0, c.from.ensures) in
    omega (arith, c.done_total.ensures.answer, le_sum_to (at s.done) 128 c.from.result inside)

pub invariant_of-self : goal.invariant_of-self
invariant_of-self g c =
    let s = c.args.self.now in
    let N : LawfulNet = record { net = g.N.Net.net s.net; law = g.met.N.Net.lawful s.net } in
    let inside : c.from.result < 128 = omega (arith, N.law.few_steps, c.in-Some.ensures.0, c.from.ensures) in
    record {
      long = length-set s.done c.from.result _ ∙ s.long;
      total = omega (arith, c.done_total.ensures.answer, one_more_total s.done 128 c.from.result s.long inside);
    }
