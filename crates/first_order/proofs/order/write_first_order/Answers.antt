use Rattle.theory.specs.Nets.{LawfulNet}
use Rattle.std.proofs.Common.{◌≡◌, Some, ℕ, ◌+◌, ◌<◌, length, sym, ap, ◌∙◌, subst, arith}
use Rattle.theory.specs.Rows.{at}
use Rattle.theory.specs.Tallies.{steps_asked}
use Rattle.theory.specs.Tests.{least, is_safe}
use Rattle.bounded_list.specs.declared.BoundedList.{BoundedList}
use Rattle.first_order.specs.declared.schedule.Schedule.{Schedule}
use Rattle.first_order.proofs.Going.{Going}
use Rattle.first_order.proofs.Turns.{turn, found_fits, none_cut_off, some_left}
use Rattle.first_order.proofs.order.write_first_order.Goals as goal
use Rattle.first_order.proofs.order.write_first_order.Goals.{in-Some, in_default}

pub loop-preserved : goal.loop-preserved
loop-preserved g c =
    let N : LawfulNet = record { net = g.N.Net.net c.args.net.now; law = g.met.N.Net.lawful c.args.net.now } in
    let m₀ = at c.args.counts.now in
    let x₀ = at c.args.tally.now in
    let lent = c.new-order.result.memory.now in
    let k = c.loop.counter in
    let s = c.loop.schedule in
    let o = c.loop.order in
    let going = c.loop.invariant.1 in
    let m = going.marking in
    let x = going.tally in
    let left : k < steps_asked N.net x₀ = omega (arith, c.loop-test.true, c.steps_asked-end.ensures.answer) in
    let room : k < length lent = omega (arith, c.requires.long, ap length c.new-order.ensures.memory) in
    let told = c.next_step.ensures.answer N.net m x N.law going.shows (none_cut_off N.net N.law m x going.can) in
    elim c.match-next_step.branch [
      | in-Some w ↦
          let t = w.in-Some.step in
          let s' = w.fire.new.self in
          let o' = w.add.new.self in
          let found : Some t ≡ least (is_safe N.net m x) N.net.steps = sym w.in-Some.is ∙ told in
          let more = turn N.net N.law m₀ x₀ lent k s o.memory.now o.len going t found room
          s' (w.fire.ensures m x (c.next_step.ensures.kept N.net m x going.shows))
          w.add.result o'.memory.now o'.len w.add.ensures.adds in
          let Q : Schedule → Type 0 = λ z. Going N.net m₀ x₀ lent (k + 1) z o'.memory.now o'.len in
          let O : BoundedList ℕ → Type 0 = λ z. Going N.net m₀ x₀ lent (k + 1) c.match-next_step.schedule z.memory.now z.len in (
            ap (λ z. z.memory.ghost_name) w.order-is ∙ (w.add.ensures.lender ∙ c.loop.invariant.0),
            subst O (sym w.order-is) (subst Q (sym w.schedule-is) more),
          )
      | in_default w ↦
          absurd (some_left N.net N.law m x going.can (omega (arith, going.left)) (sym told ∙ w.in_default.is))
    ]

pub fire-requires : goal.fire-requires
fire-requires g c =
    let N : LawfulNet = record { net = g.N.Net.net c.args.net.now; law = g.met.N.Net.lawful c.args.net.now } in
    let o = c.loop.order in
    let going = c.loop.invariant.1 in
    let m = going.marking in
    let x = going.tally in
    let told = c.next_step.ensures.answer N.net m x N.law going.shows (none_cut_off N.net N.law m x going.can) in
    record {
      ready = c.in-Some.ensures.ready;
      fits = found_fits N.net N.law (at c.args.counts.now) (at c.args.tally.now) c.new-order.result.memory.now c.loop.counter c.loop.schedule o.memory.now o.len going
          c.in-Some.step (sym c.in-Some.is ∙ told) c.next_step.new.self (c.next_step.ensures.kept N.net m x going.shows);
    }
