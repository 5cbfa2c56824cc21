-- Which firings are safe, told with at most one search: where no place is cut off, a firing can only lose its own
-- input place, and that only if it takes the last block there and puts none down.
use Rattle.std.proofs.Common.{◌≡◌, ℕ, ◌<◌, Bool, true, false, ◌&&◌, ltb, ◌⊎◌, Decides, sym, refl, ap, ◌∙◌, subst, inl, inr, arith}
use Rattle.std.proofs.lemmas.Bool.{cases_eq, cases_Bool, both_ways, lt-ltb, and_left, and_right}
use Rattle.theory.specs.Nets.{NetMeaning, NetLaw}
use Rattle.theory.specs.Firing.{Marking, fired}
use Rattle.theory.specs.Tallies.{Tally, IsReached, NoPlaceCutOff}
use Rattle.theory.specs.Tallies.IsReached.{marked, through}
use Rattle.theory.specs.Orders.{less}
use Rattle.theory.specs.Tests.{no_place_cut_off, is_safe}
use Rattle.theory.proofs.TallySums.{one_same, one_other}
use Rattle.theory.proofs.Realized.{InputsReached, reached_fold}
use Rattle.theory.proofs.SafeSteps.{KeepsReached, keeps_if_back, keeps_if_last}
use Rattle.theory.proofs.Decided.{reached_from, none_cut_off_from, no_cut_off_decided}

module _ (N : NetMeaning) (law : NetLaw N) (m : Marking) (x : Tally) (t : ℕ) where
  -- a step that is not left, or finds no block, is not safe
  pub not_ready : (ltb 0 (x t) && ltb 0 (m (N.input t))) ≡ false → is_safe N m x t ≡ false
  not_ready e =
      and_right (ltb t N.steps) _ (elim (cases_Bool (ltb 0 (x t))) [
        | inl a ↦
            and_right (ltb 0 (x t)) _ (and_left (ltb 0 (m (N.input t))) _
            (sym (ap (λ (v : Bool). v && ltb 0 (m (N.input t))) a) ∙ e))
        | inr a ↦ and_left (ltb 0 (x t)) _ a
      ])

  module _ (l : t < N.steps) (h : 0 < x t) (i : 0 < m (N.input t)) where
    -- whether a ready step is safe is whether no place is cut off after it
    ready_safe : is_safe N m x t ≡ no_place_cut_off N (fired N m t) (less x t)
    ready_safe =
        ap (λ (v : Bool). v && (ltb 0 (x t) && (ltb 0 (m (N.input t)) && no_place_cut_off N (fired N m t) (less x t)))) (lt-ltb t N.steps l)
        ∙ ap (λ (v : Bool). v && (ltb 0 (m (N.input t)) && no_place_cut_off N (fired N m t) (less x t))) (lt-ltb 0 (x t) h)
        ∙ ap (λ (v : Bool). v && no_place_cut_off N (fired N m t) (less x t)) (lt-ltb 0 (m (N.input t)) i)

    keeps_safe : KeepsReached N m x t → is_safe N m x t ≡ true
    keeps_safe k =
        ready_safe ∙ (no_cut_off_decided N law.inputs_inside (fired N m t) (less x t)).1
        (none_cut_off_from N (fired N m t) (less x t) k.3)

    -- the place is reached again after the firing if it is along the steps that were left before it
    back : IsReached N (fired N m t) x (N.input t) → IsReached N (fired N m t) (less x t) (N.input t)
    back r = elim (way (N.input t) r) [ inl a ↦ a | inr a ↦ a ]
      where
        Again : ℕ → Type 0
        Again = IsReached N (fired N m t) (less x t)

        way : (q : ℕ) → IsReached N (fired N m t) x q → Again q ⊎ Again (N.input t)
        way =
            reached_fold N (fired N m t) x (λ q. Again q ⊎ Again (N.input t))
            (λ q k. inl (marked k))
            (λ u q k j r y. elim (cases_eq t u) [
              | inl e ↦ elim r [ inl a ↦ inr (subst (λ (v : ℕ). Again (N.input v)) (sym e) a) | inr a ↦ inr a ]
              | inr d ↦ elim r [
                | inl a ↦ inl (through u k (omega (arith, one_other t u d)) a y)
                | inr a ↦ inr a
              ]
            ])

    forth : (q : ℕ) → IsReached N (fired N m t) (less x t) q → IsReached N (fired N m t) x q
    forth = reached_fold N (fired N m t) (less x t) (IsReached N (fired N m t) x) (λ q k. marked k) (λ u q k j r y. through u k (omega arith) r y)

    module _ (none : NoPlaceCutOff N m x) where
      inputs_reached : InputsReached N m x
      inputs_reached = reached_from N law.inputs_inside m x none

      -- the place keeps a block
      pub safe_if_marked : 0 < fired N m t (N.input t) → is_safe N m x t ≡ true
      safe_if_marked k = keeps_safe (keeps_if_back N m x inputs_reached t l h i (marked k))

      -- no other step that is left takes there
      pub safe_if_last : ((u : ℕ) → u < N.steps → 0 < x u → N.input u ≡ N.input t → u ≡ t) → x t ≡ 1 → is_safe N m x t ≡ true
      safe_if_last alone once = keeps_safe (keeps_if_last N m x inputs_reached t l h i (λ u k j e.
          omega (arith, ap (less x t) (alone u k (omega arith) (sym e)), one_same t t refl)))

      -- some step that is left takes there after t: the firing is safe exactly if the place is reached again
      pub safe_if_back : (u : ℕ) × (u < N.steps) × (0 < less x t u) × (N.input u ≡ N.input t) → (r : Bool) →
          Decides r (IsReached N (fired N m t) x (N.input t)) → r ≡ is_safe N m x t
      safe_if_back w r d = elim (cases_Bool r) [
        | inl e ↦ e ∙ sym (keeps_safe (keeps_if_back N m x inputs_reached t l h i (back (d.0 e))))
        | inr e ↦
            e ∙ sym (elim (cases_Bool (is_safe N m x t)) [
              | inr f ↦ f
              | inl f ↦ absurd ((no_cut_off_decided N law.inputs_inside (fired N m t) (less x t)).0 (sym ready_safe ∙ f)
                  (N.input t) (law.inputs_inside t l)
                  ((w.0, w.1, w.2, inl w.3), λ a. both_ways r e (d.1 (forth (N.input t) a))))
            ])
      ]
