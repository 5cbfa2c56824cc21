use Rattle.std.proofs.Common.{rules, ◌≡◌, ℕ, Bool, ◌&&◌, ◌||◌, sym, ap, ◌∙◌}
use Rattle.sets.specs.Flags.{has}
use Rattle.reached.specs.Led.{has_at}
use Rattle.sets.proofs.Passed.{passed, rest_inside, one_passed, none_passed, all_passed}
use Rattle.first_order.proofs.Added.{step_none, step_added, step_alike}
use Rattle.first_order.specs.Tables.{any_step}
use Rattle.first_order.proofs.schedule.Schedule.yields_of.Goals as goal

pub loop-step-init : goal.loop-step-init
loop-step-init c = (
  λ p. c.empty-places.ensures.answer p
      ∙ sym (step_none (passed c.into_iter-step-iterator.result.rest c.into_iter-step-iterator.result.rest) (λ t. has_at c.args.self.now.yields t p) (none_passed c.into_iter-step-iterator.result.rest)),
  λ t e. e,
)

pub loop-step-preserved : goal.loop-step-preserved
loop-step-preserved c =
    let k : ℕ = c.in-Some.step in
    let steps : ℕ = c.into_iter-step-iterator.result.rest in
    let rest : ℕ = c.loop-step.step-iterator.rest in
    let rest' : ℕ = c.next.new.self.rest in
    let first = c.in-Some.ensures.steps.0 in
    let less = c.in-Some.ensures.steps.1 in
    let inside = c.loop-step.invariant.1 in (
      λ p.
          c.union-places.ensures p
          ∙ ap (λ (v : Bool). v || has c.yields.result p) (c.loop-step.invariant.0 p)
          ∙ ap (λ (v : Bool). any_step (λ t. passed steps rest t && has_at c.args.self.now.yields t p) || v) (c.yields.ensures p)
          ∙ step_added (passed steps rest) (passed steps rest') (λ t. has_at c.args.self.now.yields t p) k first.inside
          (one_passed 128 steps rest rest' k first inside less),
      rest_inside 128 steps rest rest' k first inside less,
    )

pub returns : goal.returns
returns c p =
    let set : ℕ = c.into_iter-step-iterator.result.rest in
    let rest : ℕ = c.loop-step.step-iterator.rest in
    let is_set : set ≡ c.args.steps = search rules in
    c.loop-step.invariant.0 p
    ∙ step_alike (λ t. passed set rest t && has_at c.args.self.now.yields t p) (λ t. has c.args.steps t && has_at c.args.self.now.yields t p)
    (λ t. ap (λ (v : Bool). v && has_at c.args.self.now.yields t p) (all_passed set rest t (c.in-None.ensures.steps t) ∙ ap (λ (w : ℕ). has w t) is_set))
