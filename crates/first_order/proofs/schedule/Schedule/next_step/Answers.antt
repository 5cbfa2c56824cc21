use Rattle.std.proofs.Common.{◌≡◌, ℕ, eqb, ◌<◌, false, not, ◌&&◌, sym, ap, ◌∙◌, inl, inr}
use Rattle.std.proofs.lemmas.Bool.{cases_Bool, both_ways, and_parts, and_cases, not-false, eqb-true}
use Rattle.sets.specs.Flags.{has}
use Rattle.first_order.proofs.Chosen.{none_safe, least_safe, a_step, shows_kept, kept_both, told_before}
use Rattle.first_order.proofs.schedule.Schedule.next_step.Goals as goal

pub is_safe-requires-clause-ready : goal.is_safe-requires-clause-ready
is_safe-requires-clause-ready c =
    ap (λ set. has set c.in-Some.step) c.loop-step.invariant.0.ready ∙ c.loop-step.invariant.1 c.in-Some.step c.in-Some.ensures.steps.0.passes

pub loop-step-preserved : goal.loop-step-preserved
loop-step-preserved c =
    let k : ℕ = c.in-Some.step in
    let inv = c.loop-step.invariant in
    let left : (t : ℕ) → has c.next.new.self.rest t ≡ (has c.loop-step.step-iterator.rest t && not (eqb t k)) = c.in-Some.ensures.steps.1 in (
      kept_both c.args.self.now c.loop-step.self c.is_safe.new.self inv.0 c.if-is_safe.ensures.kept,
      λ t e. inv.1 t (and_parts (has c.loop-step.step-iterator.rest t) (not (eqb t k)) (sym (left t) ∙ e)).0,
      λ t r e. elim (cases_Bool (has c.loop-step.step-iterator.rest t)) [
        | inr f ↦ inv.2 t r f
        | inl f ↦ elim (and_cases (has c.loop-step.step-iterator.rest t) (not (eqb t k)) (sym (left t) ∙ e)) [
          | inl g ↦ absurd (both_ways (has c.loop-step.step-iterator.rest t) g f)
          | inr g ↦ told_before c.args.self.now c.loop-step.self inv.0 k t (eqb-true t k (not-false (eqb t k) g)) false c.if-is_safe.ensures.answer
        ]
      ],
    )

pub returns-then-is_safe-clause-answer : goal.returns-then-is_safe-clause-answer
returns-then-is_safe-clause-answer c N m x law h none =
    let t : ℕ = c.in-Some.step in
    let s = c.args.self.now in
    let inv = c.loop-step.invariant in
    let first = c.in-Some.ensures.steps.0 in
    let l : t < N.steps = a_step N m x s h t (inv.1 t first.passes) in
    least_safe N law m x s h (has c.loop-step.step-iterator.rest) (λ k j r e. sym ((inv.2 k r e).told N m x law h none j))
    t l (sym (c.if-is_safe.ensures.answer.told N m x law (shows_kept N m x s c.loop-step.self inv.0 h) none l)) first.least

pub returns-clause-answer : goal.returns-clause-answer
returns-clause-answer c N m x law h none =
    none_safe N law m x c.args.self.now h (has c.loop-step.step-iterator.rest) (λ k j r e. sym ((c.loop-step.invariant.2 k r e).told N m x law h none j))
    c.in-None.ensures.steps
