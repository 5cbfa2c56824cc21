use Rattle.std.proofs.Common.{◌≡◌, ℕ, ◌*◌, ◌<◌, length, refl, ap, ◌∙◌, arith, length-set}
use Rattle.theory.specs.Firing.{one_at}
use Rattle.theory.specs.Nets.{LawfulNet}
use Rattle.theory.specs.Rows.{at}
use Rattle.tallies.proofs.Bounds.{spent_few}
use Rattle.tallies.proofs.Rows.{none_added, one_added, added_at}
use Rattle.tallies.proofs.by_place.spent_by_place.Goals as goal
use Rattle.tallies.proofs.by_place.spent_by_place.Goals.{in-Some, in_default}

pub loop-step-init : goal.loop-step-init
loop-step-init g c = (refl, λ p. none_added _ 64 p)

pub overflow_add-row : goal.overflow_add-row
overflow_add-row g c =
    let L : LawfulNet = record { net = g.N.Net.net c.args.net.now; law = g.met.N.Net.lawful c.args.net.now } in
    let p : ℕ = c.from-in-Some.result in
    omega (arith, c.loop-step.invariant.1 p, spent_few L (at c.args.tally.now) c.loop-step.step p (λ k. omega (arith, c.type_inv.tally k)), L.law.few_steps, c.from.ensures, c.times.ensures, c.type_inv.tally c.loop-step.step)

pub loop-step-preserved : goal.loop-step-preserved
loop-step-preserved g c =
    let L : LawfulNet = record { net = g.N.Net.net c.args.net.now; law = g.met.N.Net.lawful c.args.net.now } in
    let x = at c.args.tally.now in
    let n : ℕ = c.loop-step.step in
    elim c.match-input.branch [
      | in-Some w ↦
          let q : ℕ = w.from-in-Some.result in
          let here : q ≡ L.net.input n = omega (arith, w.from-in-Some.ensures, w.in-Some.ensures.1) in
          let inside : q < length c.loop-step.row = omega (arith, c.loop-step.invariant.0, w.in-Some.ensures.0, L.law.inputs_inside n, L.law.few_places) in (
            ap length w.row-is ∙ length-set _ _ _ ∙ c.loop-step.invariant.0,
            λ p.
                ap (λ row. at row p) w.row-is ∙ added_at c.loop-step.row q p w.from.result inside
                ∙ one_added (λ t. x t * one_at (L.net.input t) p) n _ _ (c.loop-step.invariant.1 p)
                (ap (λ z. z * one_at q p) (w.from.ensures ∙ w.times.ensures) ∙ ap (λ z. x n * one_at z p) here),
          )
      | in_default w ↦ absurd (omega (arith, w.in_default.ensures, c.loop-step-test.true, c.steps-step-end.ensures))
    ]
