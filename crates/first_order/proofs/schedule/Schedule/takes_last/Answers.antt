use Rattle.std.proofs.Common.{◌≡◌, ◌<◌, length, ℕ, Bool, true, false, not, refl, sym, ap, ◌∙◌, subst, arith}
use Rattle.std.proofs.lemmas.Grind.{get_or_default_zero}
use Rattle.theory.specs.Rows.{at}
use Rattle.sets.specs.Flags.{has}
use Rattle.first_order.specs.Tables.{TakesLast}
use Rattle.first_order.proofs.Chosen.{last_told}
use Rattle.first_order.proofs.schedule.Schedule.takes_last.Goals as goal

not_not : (v : Bool) → not (not v) ≡ v
not_not true = refl
not_not false = refl

pub returns-then-self-from-eq1 : goal.returns-then-self-from-eq1
returns-then-self-from-eq1 c there =
    let s = c.args.self.now in
    let t : ℕ = c.args.step in
    let place : ℕ = at s.inputs t in
    let i : c.from-then-self-from-eq1.result ≡ place = c.from-then-self-from-eq1.ensures ∙ c.input.ensures.table in
    let l : c.from-then-self-from-eq1.result < length s.takers = omega (arith, c.from-then-self-from-eq1.ensures, c.input.ensures.inside) in
    let row = get_or_default_zero s.takers c.from-then-self-from-eq1.result c.index-self-from.result l ∙ ap (at s.takers) i in
    subst (TakesLast s t) (ap not c.is_none.ensures ∙ not_not c.is_none.result)
    (last_told s t c.requires (ap (at s.left) (sym c.from.ensures) ∙ c.if-self-from-eq1.true) _ c.without_first.result row
    (ap (λ (w : ℕ). has w t) row ∙ there) c.without_first.ensures.answer c.first.result c.first.ensures.cases)
