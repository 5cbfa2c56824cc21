use Rattle.std.proofs.Common.{ℕ, ◌<◌, nat_lt, sym, ap, ◌∙◌, arith}
use Rattle.theory.specs.Nets.{NetMeaning, LawfulNet}
use Rattle.formats.proofs.ReadTables.{Holds, same_net, inputs_within, yields_small, yields_at_some_place}
use Rattle.nets.proofs.net_table.NetTable.read.Goals as goal

-- once the last step is read, the table holds every answer
pub invariant_of-self-2 : goal.invariant_of-self-2
invariant_of-self-2 g c =
    let L : LawfulNet = record { net = g.N.Net.net c.args.net.now; law = g.met.N.Net.lawful c.args.net.now } in
    let law = L.law in
    let read = c.loop-step.invariant in
    let steps = c.steps-steps.ensures in
    let inside : (t : ℕ) → t < L.net.steps → t < c.loop-step.step = λ t h. omega (arith, h, c.loop-step-test.false, steps) in
    let inside_table : (t : ℕ) → t < c.steps-steps.result → t < c.loop-step.step = λ t h. omega (arith, h, c.loop-step-test.false) in
    let holds : Holds L.net c.loop-step.self.places c.steps-steps.result c.loop-step.self.inputs c.loop-step.self.yields = record {
      places = read.places;
      steps = steps;
      inputs = λ t h. read.inputs.filled t (inside t h);
      yields = λ t p h _. read.rows.filled t (inside t h) p;
    } in
    record {
      some_place = omega (arith, law.some_place, read.places);
      few_places = omega (arith, law.few_places, read.places);
      few_steps = omega (arith, law.few_steps, steps);
      inputs_inside = inputs_within _ law _ _ _ _ holds;
      yields_small = yields_small _ law _ _ _ _ holds;
      yields_something = yields_at_some_place _ law _ _ _ _ holds;
      nothing_outside = λ t p h. read.rows.filled t (inside_table t h) p ∙ sym (ap (λ (N : NetMeaning). N.yields t p) (same_net _ law _ _ _ _ holds));
      places_held = λ t p h. read.sets.filled t (inside_table t h) p ∙ ap (nat_lt 0) (sym (read.rows.filled t (inside_table t h) p));
    }
