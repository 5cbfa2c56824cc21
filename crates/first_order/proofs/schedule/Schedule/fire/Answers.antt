use Rattle.std.proofs.Common.{◌≡◌, ℕ, ◌+◌, ◌-◌, sym, ap, ◌∙◌, arith}
use Rattle.theory.specs.Nets.{LawfulNet}
use Rattle.theory.specs.Firing.{Marking, one_at}
use Rattle.theory.specs.Orders.{less}
use Rattle.first_order.specs.declared.schedule.Schedule.{Schedule}
use Rattle.first_order.proofs.Chosen.{a_step, is_there, holds}
use Rattle.first_order.proofs.Moved.{shows_alike, taken_last}
use Rattle.first_order.proofs.schedule.Schedule.fire.Goals as goal

pub returns : goal.returns
returns g c m x h =
    let lawful : LawfulNet = record { net = g.N.Net.net c.args.net.now; law = g.met.N.Net.lawful c.args.net.now } in
    let N = lawful.net in
    let s : Schedule = c.args.self.now in
    let t : ℕ = c.args.step in
    let l = a_step N m x s h t c.requires.ready in
    let some = holds N lawful.law m x s h t l c.requires.ready in
    let m₁ : Marking = λ p. m p + N.yields t p in
    let shown = c.put_yields.ensures m x h in
    let place : c.input-place.result ≡ N.input t = c.input-place.ensures.table ∙ shown.inputs t in
    let m₂ : Marking = λ p. m₁ p - one_at c.input-place.result p in
    let taken = c.take_at.ensures N m₁ x lawful.law shown (omega (arith, some, ap m place)) in
    shows_alike N m₂ _ (less x t) c.count_down.new.self
    (λ p. taken_last m (N.yields t) (N.input t) p some ∙ ap (λ (v : ℕ). m₁ p - one_at v p) (sym place))
    (c.count_down.ensures N m₂ x lawful.law taken l (is_there N lawful.law m x s h t l c.requires.ready))
