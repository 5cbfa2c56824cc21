use Rattle.std.proofs.Common.{◌≡◌, ℕ, ◌<◌, refl, ap, ◌∙◌, rules, arith}
use Rattle.theory.specs.Nets.{LawfulNet}
use Rattle.theory.specs.Rows.{at}
use Rattle.nets.proofs.InputLaws.{input_or_0}
use Rattle.first_order.specs.Shows.{is_left}
use Rattle.first_order.proofs.Reading.{read_none, read_more, read_all, takers_read}
use Rattle.first_order.proofs.schedule.Schedule.read.Goals as goal

pub loop-step-init : goal.loop-step-init
loop-step-init g c =
    let lawful : LawfulNet = record { net = g.N.Net.net c.args.net.now; law = g.met.N.Net.lawful c.args.net.now } in
    read_none lawful.net (at c.args.counts.now) (at c.args.tally.now) c.args.self.now _ c.requires
    (record { inputs = refl; yields = refl; takers = refl; before = refl })
    (omega arith) (omega arith) (omega arith) (λ p. refl)
    c.marked_in-self.ensures

pub loop-step-preserved : goal.loop-step-preserved
loop-step-preserved g c =
    let lawful : LawfulNet = record { net = g.N.Net.net c.args.net.now; law = g.met.N.Net.lawful c.args.net.now } in
    let n : ℕ = c.loop-step.step in
    let l : n < lawful.net.steps = omega (arith, c.loop-step-test.true, c.steps-step-end.ensures) in
    let input : c.unwrap_or.result ≡ lawful.net.input n = c.unwrap_or.ensures ∙ input_or_0 lawful n c.input.result c.input.ensures in
    let at_row : c.unwrap_or-in-loop-step.result ≡ at c.args.tally.now c.from-row.result = search rules in
    let times : c.unwrap_or-in-loop-step.result ≡ at c.args.tally.now n = at_row ∙ ap (at c.args.tally.now) c.from-row.ensures in
    read_more lawful.net (at c.args.counts.now) (at c.args.tally.now) n c.loop-step.self c.loop-step.invariant (omega (arith, l, lawful.law.few_steps))
    c.from-row.result c.unwrap_or.result c.yield_places.result c.unwrap_or-in-loop-step.result c.from-row.ensures input c.yield_places.ensures times
    _ (record { left = refl; inputs = refl; yields = refl; counts = refl; marked = refl; takers = refl; before = refl }) c.ask.new.self c.ask.ensures

pub returns : goal.returns
returns g c =
    let lawful : LawfulNet = record { net = g.N.Net.net c.args.net.now; law = g.met.N.Net.lawful c.args.net.now } in
    let x : ℕ → ℕ = at c.args.tally.now in
    let n : ℕ = c.loop-step.step in
    let all : n ≡ lawful.net.steps = omega (arith, c.loop-step-test.false, c.loop-step.auto.step-end, c.steps-step-end.ensures) in
    read_all lawful.net lawful.law (at c.args.counts.now) x n c.loop-step.self c.loop-step.invariant all _
    (record { left = refl; inputs = refl; yields = refl; counts = refl; marked = refl; takers = refl; before = refl })
    (c.takers_at-self.ensures.answer (is_left lawful.net x) lawful.net.input
    (takers_read lawful.net lawful.law (at c.args.counts.now) x n c.loop-step.self c.loop-step.invariant all))
