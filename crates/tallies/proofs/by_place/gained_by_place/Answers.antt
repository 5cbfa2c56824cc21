use Rattle.std.proofs.Common.{◌≡◌, ℕ, ◌*◌, ap, ◌∙◌, zero-mul, arith}
use Rattle.theory.specs.Nets.{LawfulNet}
use Rattle.theory.specs.Rows.{at}
use Rattle.tallies.proofs.Bounds.{gained_few}
use Rattle.tallies.proofs.Rows.{none_added, one_added, passed_over}
use Rattle.tallies.proofs.by_place.gained_by_place.Goals as goal
use Rattle.tallies.proofs.by_place.gained_by_place.Goals.{then-times-gt0, else-times-gt0}

pub loop-step-init : goal.loop-step-init
loop-step-init g c p = none_added _ 64 p

pub add_yields-requires : goal.add_yields-requires
add_yields-requires g c p =
    let lawful : LawfulNet = record { net = g.N.Net.net c.args.net.now; law = g.met.N.Net.lawful c.args.net.now } in
    omega (arith, c.loop-step.invariant p, gained_few lawful (at c.args.tally.now) c.loop-step.step p (λ k. omega (arith, c.type_inv.tally k)), lawful.law.few_steps)

pub loop-step-preserved : goal.loop-step-preserved
loop-step-preserved g c p =
    let lawful : LawfulNet = record { net = g.N.Net.net c.args.net.now; law = g.met.N.Net.lawful c.args.net.now } in
    let x = at c.args.tally.now in
    let f : ℕ → ℕ = λ t. x t * lawful.net.yields t p in
    let n : ℕ = c.loop-step.step in
    elim c.if-times-gt0.branch [
      | then-times-gt0 w ↦
          ap (λ row. at row p) w.row-is ∙ w.add_yields.ensures p
          ∙ one_added f n _ _ (c.loop-step.invariant p)
          (ap (λ z. z * lawful.net.yields n p) c.times-times.ensures)
      | else-times-gt0 w ↦
          let none : x n ≡ 0 = omega (arith, c.times-times.ensures, w.if-times-gt0.false) in
          ap (λ row. at row p) w.row-is
          ∙ passed_over f n _ (c.loop-step.invariant p) (ap (λ z. z * lawful.net.yields n p) none ∙ zero-mul (lawful.net.yields n p))
    ]
