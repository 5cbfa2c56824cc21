-- A step is safe by what happens at its input place, and any closed set of reached places has them all.
use Rattle.std.proofs.Common.{◌≡◌, ℕ, ◌+◌, ◌<◌, Bool, ◌&&◌, eqb, ltb, ◌⊎◌, sym, subst, inl, inr, arith}
use Rattle.std.proofs.lemmas.Bool.{cases_Bool}
use Rattle.std.proofs.lemmas.Bool.Decides.{Decides-and, Decides-ltb, Decides-eqb, same_from_decides, not_from_Decides}
use Rattle.theory.specs.Nets.{NetMeaning}
use Rattle.theory.specs.Firing.{Marking, one_at, fired}
use Rattle.theory.specs.Tallies.{Tally, spent, gained, IsReached}
use Rattle.theory.specs.Orders.{less}
use Rattle.theory.specs.Tests.{any_below, is_reached}
use Rattle.theory.specs.Laws.{FiringKeepsFinalNumbers, SafeByItsInput, ClosedSetIsReached}
use Rattle.theory.proofs.TallySums.{sum_less}
use Rattle.theory.proofs.Realized.{InputsReached, fired_is, realizes_enough, realizes_reached}
use Rattle.theory.proofs.SafeSteps.{keeps_if_back, keeps_if_last, keeps_safe}
use Rattle.theory.proofs.ReachRounds.{closed_reached, reached_decided}
use Rattle.theory.proofs.Decided.{decides_any}
use Rattle.theory.proofs.Appended.{same_difference}

pub firing_keeps_final_numbers : FiringKeepsFinalNumbers
firing_keeps_final_numbers N m x t l h i p =
    same_difference (fired N m t p + gained N (less x t) p) (spent N (less x t) p) (m p + gained N x p) (spent N x p)
    (omega (
      arith,
      fired_is N m t p i,
      sum_less x (λ u. one_at (N.input u) p) t N.steps l h,
      sum_less x (λ u. N.yields u p) t N.steps l h,
    ))

-- after the step, its input place is reached, or no step left takes from there
back_or_last : (N : NetMeaning) (m : Marking) (x : Tally) (p : ℕ) → InputsReached N m x →
    IsReached N m x p ⊎ ((u : ℕ) → u < N.steps → 0 < x u → N.input u ≡ p → ⊥)
back_or_last N m x p c =
    let takes : ℕ → Bool = λ u. ltb 0 (x u) && eqb (N.input u) p in
    let d = decides_any takes (λ u. (0 < x u) × (N.input u ≡ p)) N.steps
    (λ u. Decides-and (ltb 0 (x u)) (eqb (N.input u) p) (Decides-ltb 0 (x u)) (Decides-eqb (N.input u) p)) in
    elim (cases_Bool (any_below takes N.steps)) [
      | inl e ↦ let w = d.0 e in inl (subst (IsReached N m x) w.2.1 (c w.0 w.1 w.2.0))
      | inr e ↦ inr (λ u l h q. not_from_Decides (any_below takes N.steps) d e (u, l, (h, q)))
    ]

pub safe_by_its_input : SafeByItsInput
safe_by_its_input N inside m x r t l h i = (
  λ s. back_or_last N (fired N m t) (less x t) (N.input t) (realizes_reached N (fired N m t) (less x t) s.3.0 s.3.1),
  λ w. keeps_safe N inside m x (realizes_enough N m x r.0 r.1) t (elim w [
    | inl back ↦ keeps_if_back N m x (realizes_reached N m x r.0 r.1) t l h i back
    | inr last ↦ keeps_if_last N m x (realizes_reached N m x r.0 r.1) t l h i (λ u k j e. last u k j (sym e))
  ]),
)

pub closed_set_is_reached : ClosedSetIsReached
closed_set_is_reached N inside m x set c p l =
    same_from_decides (set p) (is_reached N m x p)
    (c.has_reached_only p l, λ r. closed_reached N inside m x set c.has_marked c.closed p r l)
    (reached_decided N inside m x p l)
