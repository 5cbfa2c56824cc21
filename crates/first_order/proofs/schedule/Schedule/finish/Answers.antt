use Rattle.std.proofs.Common.{◌≡◌, ℕ, ◌<◌, Bool, not, ◌&&◌, eqb, length, sym, refl, ap, ◌∙◌, arith}
use Rattle.std.proofs.lemmas.Grind.{get_or_default_zero}
use Rattle.sets.specs.Flags.{has}
use Rattle.theory.specs.Rows.{at}
use Rattle.reached.specs.Led.{has_at}
use Rattle.reached.proofs.SetRows.{reduced}
use Rattle.first_order.specs.Tables.{any_step}
use Rattle.first_order.proofs.Added.{step_alike}
use Rattle.first_order.proofs.schedule.Schedule.finish.Goals as goal

pub returns : goal.returns
returns c =
    let s = c.args.self.now in
    let t : ℕ = c.args.step in
    let place : ℕ = at s.inputs t in
    let there : c.input-place.result ≡ place = c.input-place.ensures.table in
    let i : c.from.result ≡ place = c.from.ensures ∙ there in
    let j : c.from-2.result ≡ place = c.from-2.ensures ∙ there in
    let l : c.from.result < length s.takers = omega (arith, c.from.ensures, c.input-place.ensures.inside) in
    let l2 : c.from-2.result < length s.takers = omega (arith, c.from-2.ensures, c.input-place.ensures.inside) in
    let others : (u : ℕ) → has c.without-others.result u ≡ (has_at s.takers place u && not (eqb u t)) =
    λ u. c.without-others.ensures.answer u
    ∙ ap (λ (v : ℕ). has v u && not (eqb u t)) (get_or_default_zero s.takers c.from.result c.index-self-from.result l ∙ ap (at s.takers) i) in
    record {
      left = refl;
      inputs = refl;
      yields = refl;
      counts = refl;
      marked = refl;
      takers = λ p u.
          reduced s.takers c.from-2.result c.without-others.result (λ v. eqb v t) l2
          (λ v. others v ∙ ap (λ (q : ℕ). has_at s.takers q v && not (eqb v t)) (sym j)) p u
          ∙ ap (λ (q : ℕ). has_at s.takers p u && not (eqb p q && eqb u t)) j;
      ready = c.without-self.ensures.answer;
      before = λ p q.
          c.lose.ensures p q
          ∙ ap (λ (v : Bool). has_at s.origins.before p q && not (v && eqb q c.input-place.result))
          (c.difference-lost.ensures.answer p
          ∙ ap (λ (v : Bool). v && not (has c.yields_of.result p)) (c.yields.ensures p)
          ∙ ap (λ (v : Bool). has_at s.yields t p && not v)
          (c.yields_of.ensures p
          ∙ step_alike (λ u. has c.without-others.result u && has_at s.yields u p) (λ u. (has_at s.takers place u && not (eqb u t)) && has_at s.yields u p)
          (λ u. ap (λ (v : Bool). v && has_at s.yields u p) (others u))))
          ∙ ap (λ (v : ℕ). has_at s.origins.before p q && not ((has_at s.yields t p && not (any_step (λ u. (has_at s.takers place u && not (eqb u t)) && has_at s.yields u p))) && eqb q v)) there;
    }
