use Rattle.std.proofs.Common.{ℕ, ◌||◌, sym, ap, ◌∙◌, arith}
use Rattle.std.proofs.lemmas.Grind.{get_or_default_zero}
use Rattle.theory.specs.Rows.{at}
use Rattle.sets.specs.Flags.{has}
use Rattle.std.proofs.lemmas.Bool.{and_parts}
use Rattle.reached.specs.Led.{has_at}
use Rattle.reached.proofs.Searching.{search_begins, search_goes_on, search_ends}
use Rattle.reached.proofs.search.reached_from.Goals as goal

pub loop-place-init : goal.loop-place-init
loop-place-init c = (
  search_begins (has_at c.args.leads.now) (has c.args.first) (has c.empty-done.result) c.empty-done.ensures.answer,
  c.empty-done.ensures.bound,
)

pub loop-place-preserved : goal.loop-place-preserved
loop-place-preserved c = (
  search_goes_on (has_at c.args.leads.now) (has c.args.first) (has c.loop-place.seen) (has c.loop-place.done) _ _
      c.loop-place.invariant.0 c.in-Some.place
      (and_parts _ _ (sym (c.difference.ensures.answer c.in-Some.place) ∙ c.in-Some.ensures.cases.passes)).0
      c.with-done.ensures.answer
      (λ p. c.union-seen.ensures p
      ∙ ap (λ (v : ℕ). has c.loop-place.seen p || has v p)
      (get_or_default_zero c.args.leads.now c.from.result c.index-leads-from.result (omega (arith, c.in-Some.ensures.cases.inside)) ∙ ap (at c.args.leads.now) c.from.ensures)),
  c.with-done.ensures.bound,
)

pub returns : goal.returns
returns c =
    search_ends (has_at c.args.leads.now) (has c.args.first) (has c.loop-place.seen) (has c.loop-place.done)
    c.loop-place.invariant.0 (λ p. sym (c.difference.ensures.answer p) ∙ c.in_default.ensures.cases p)
