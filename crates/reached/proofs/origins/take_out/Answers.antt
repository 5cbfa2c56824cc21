use Rattle.std.proofs.Common.{ℕ, Bool, not, ◌<◌, length, ◌&&◌, eqb, sym, ap, ◌∙◌, arith}
use Rattle.std.proofs.lemmas.Grind.{get_or_default_zero}
use Rattle.sets.specs.Flags.{has}
use Rattle.reached.specs.Led.{has_at}
use Rattle.sets.proofs.Passed.{passed, rest_inside, one_passed, more_taken}
use Rattle.reached.proofs.SetRows.{reduced}
use Rattle.reached.proofs.origins.take_out.Goals as goal

pub loop-place-preserved : goal.loop-place-preserved
loop-place-preserved c =
    let k : ℕ = c.in-Some.place in
    let set : ℕ = c.into_iter-place-iterator.result.rest in
    let rest : ℕ = c.loop-place.place-iterator.rest in
    let rest' : ℕ = c.next.new.self.rest in
    let row = c.loop-place.before in
    let first = c.in-Some.ensures.steps.0 in
    let less = c.in-Some.ensures.steps.1 in
    let l : c.from-row.result < length row = omega (arith, c.from-row.ensures, first.inside, c.told-before) in (
      λ p q.
          reduced row c.from-row.result c.without.result (λ q. eqb q c.args.origin) l
          (λ q. c.without.ensures q ∙ ap (λ v. has v q && not (eqb q c.args.origin)) (get_or_default_zero row c.from-row.result c.index-before-row.result l)) p q
          ∙ ap (λ (v : Bool). v && not ((eqb p c.from-row.result && eqb q c.args.origin))) (c.loop-place.invariant.0 p q)
          ∙ ap (λ (i : ℕ). (has_at c.args.before.now p q && not ((passed set rest p && eqb q c.args.origin))) && not ((eqb p i && eqb q c.args.origin))) c.from-row.ensures
          ∙ more_taken (has_at c.args.before.now p q) (passed set rest p) (eqb p k) (eqb q c.args.origin)
          ∙ ap (λ (v : Bool). has_at c.args.before.now p q && not ((v && eqb q c.args.origin))) (sym (one_passed 64 set rest rest' k first c.loop-place.invariant.1 less p)),
      rest_inside 64 set rest rest' k first c.loop-place.invariant.1 less,
    )
