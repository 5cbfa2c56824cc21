-- One turn of finding the first order: the next step is there, it can be fired, and the order goes on.
use Rattle.std.proofs.Common.{◌≡◌, ℕ, ◌+◌, ◌<◌, ◌^◌, List, length, Some, None, Result, sym, ◌∙◌, ⊎_elim, true≢false, arith}
use Rattle.refusals.specs.declared.Refusal.{Refusal}
use Rattle.theory.specs.Nets.{NetMeaning, NetLaw}
use Rattle.theory.specs.Rows.{at}
use Rattle.theory.specs.Firing.{Marking, fired}
use Rattle.theory.specs.Tallies.{Tally, Realizable, NoPlaceCutOff, steps_asked}
use Rattle.theory.specs.Orders.{less, IsSafe}
use Rattle.theory.specs.Tests.{least, is_safe}
use Rattle.theory.proofs.TallySums.{sum_find}
use Rattle.theory.proofs.Decided.{done_exactly_if, safe_decided, safe_step_exists, none_found}
use Rattle.bounded_list.specs.Lists.{Adds}
use Rattle.first_order.specs.declared.schedule.Schedule.{Schedule}
use Rattle.first_order.specs.Shows.{Shows}
use Rattle.first_order.proofs.Going.{Going, found_safe, asked_less, yields_at_most, going_more}

-- of a tally that can be done no place is cut off
pub none_cut_off : (N : NetMeaning) → NetLaw N → (m : Marking) (x : Tally) → Realizable N m x → NoPlaceCutOff N m x
none_cut_off N law m x can = ((done_exactly_if N law.inputs_inside m x).0 can).1

-- while steps are left, one of them is safe
pub some_left : (N : NetMeaning) → NetLaw N → (m : Marking) (x : Tally) → Realizable N m x → 0 < steps_asked N x →
    least (is_safe N m x) N.steps ≡ None → ⊥
some_left N law m x can some none =
    let inside = law.inputs_inside in
    let parts = (done_exactly_if N inside m x).0 can in
    ⊎_elim
    (λ left.
    let next = safe_step_exists N inside m x parts.0 parts.1 left.0 left.1 left.2 in
    true≢false (sym ((safe_decided N inside m x parts.0 next.0).1 next.1) ∙ (none_found (is_safe N m x) N.steps).0 none next.0 next.1.0))
    (λ nothing. omega arith)
    (sum_find x N.steps)

module _ (N : NetMeaning) (law : NetLaw N)
    (m₀ : Marking) (x₀ : Tally) (lent : List ℕ) (k : ℕ) (s : Schedule) (memory : List ℕ) (len : ℕ)
    (g : Going N m₀ x₀ lent k s memory len)
    (t : ℕ) (found : Some t ≡ least (is_safe N g.marking g.tally) N.steps) where
  best : IsSafe N g.marking g.tally t × ((u : ℕ) → u < t → IsSafe N g.marking g.tally u → ⊥)
  best = found_safe N law g.marking g.tally t g.can (sym found)

  -- what the step puts down fits, in a schedule that shows the same
  pub found_fits : (s' : Schedule) → Shows N g.marking g.tally s' → (p : ℕ) → at s'.counts p + N.yields t p < 2 ^ 32
  found_fits s' shows p =
      omega (arith, shows.counts p, g.fits p, asked_less N g.tally t best.0.0 best.0.1, yields_at_most N law t p)

  pub turn : {X : Type 0} → k < length lent →
      (s' : Schedule) → Shows N (fired N g.marking t) (less g.tally t) s' →
      (r : Result X Refusal) (memory' : List ℕ) (len' : ℕ) → Adds t memory len r memory' len' →
      Going N m₀ x₀ lent (k + 1) s' memory' len'
  turn room s' shows r memory' len' adds =
      going_more N law m₀ x₀ lent k s memory len g t best.0 best.1 s' shows r memory' len' room adds
