use Rattle.std.proofs.Common.{rules, ◌≡◌, ℕ, ◌<◌, Bool, length, ◌&&◌, ◌||◌, eqb, sym, ap, ◌∙◌, arith}
use Rattle.std.proofs.lemmas.Grind.{get_or_default_zero}
use Rattle.sets.specs.Flags.{has}
use Rattle.theory.specs.Rows.{at}
use Rattle.reached.specs.Led.{has_at}
use Rattle.sets.proofs.Passed.{passed, rest_inside, one_passed, none_passed, all_passed}
use Rattle.first_order.proofs.Added.{none_of, both_of}
use Rattle.first_order.proofs.takers.takers_at.Goals as goal

pub loop-place-init : goal.loop-place-init
loop-place-init c = (
  λ left input _ t.
      c.empty-steps.ensures.answer t ∙ sym (none_of (left t) (passed c.into_iter-place-iterator.result.rest c.into_iter-place-iterator.result.rest (input t)) (none_passed c.into_iter-place-iterator.result.rest (input t))),
  λ t h. c.empty-steps.ensures.answer t,
  λ p e. e,
)

pub loop-place-preserved : goal.loop-place-preserved
loop-place-preserved c =
    let k : ℕ = c.in-Some.place in
    let set : ℕ = c.into_iter-place-iterator.result.rest in
    let rest : ℕ = c.loop-place.place-iterator.rest in
    let rest' : ℕ = c.next.new.self.rest in
    let first = c.in-Some.ensures.steps.0 in
    let less = c.in-Some.ensures.steps.1 in
    let inside = c.loop-place.invariant.2 in
    let row = c.args.takers.now in
    let l : c.from.result < length row = omega (arith, c.from.ensures, first.inside, c.told-takers) in (
      λ left input all t.
          c.union-steps.ensures.answer t
          ∙ ap (λ v. has c.loop-place.steps t || has v t) (get_or_default_zero row c.from.result c.index-takers-from.result l ∙ ap (at row) c.from.ensures)
          ∙ ap (λ (v : Bool). v || has_at row k t) (c.loop-place.invariant.0 left input all t)
          ∙ ap (λ (v : Bool). (left t && passed set rest (input t)) || v) (all k t)
          ∙ both_of (left t) (passed set rest (input t)) (eqb (input t) k)
          ∙ ap (λ (v : Bool). left t && v) (sym (one_passed 64 set rest rest' k first inside less (input t))),
      λ t h. c.union-steps.ensures.inside t h,
      rest_inside 64 set rest rest' k first inside less,
    )

pub returns-clause-inside : goal.returns-clause-inside
returns-clause-inside c = c.loop-place.invariant.1

pub returns-clause-answer : goal.returns-clause-answer
returns-clause-answer c left input all t =
    let set : ℕ = c.into_iter-place-iterator.result.rest in
    let is_set : set ≡ c.args.places = search rules in
    c.loop-place.invariant.0 left input all t
    ∙ ap (λ (v : Bool). left t && v) (all_passed set c.loop-place.place-iterator.rest (input t) (c.in-None.ensures.steps (input t)) ∙ ap (λ (w : ℕ). has w (input t)) is_set)
