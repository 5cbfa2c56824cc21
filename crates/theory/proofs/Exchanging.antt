-- Only the net's places and steps count: markings and tallies that agree there can be exchanged.
use Rattle.std.proofs.Common.{ℕ, ◌+◌, ◌-◌, ◌<◌, List, [], ◌∷◌, sym, ap, subst, arith}
use Rattle.theory.specs.Nets.{NetMeaning, InputsInside}
use Rattle.theory.specs.Firing.{Marking, one_at, fired, CanFire, after}
use Rattle.theory.specs.Tallies.{Tally, Realizes, IsReached}
use Rattle.theory.specs.Tallies.IsReached.{marked, through}
use Rattle.theory.specs.Orders.{First}
use Rattle.theory.specs.Tests.{first_order}
use Rattle.theory.specs.Laws.{AgreeBelow, AgreeingExchanged}
use Rattle.theory.proofs.Realized.{reached_fold}
use Rattle.theory.proofs.FirstOrder.{computed_is_first, first_is_one}

module _ (N : NetMeaning) where
  agree_fired : (m m' : Marking) (t : ℕ) → AgreeBelow N.places m m' → AgreeBelow N.places (fired N m t) (fired N m' t)
  agree_fired m m' t e p l = ap (λ (k : ℕ). (k - one_at (N.input t) p) + N.yields t p) (e p l)

  agree_after : (order : List ℕ) (m m' : Marking) → AgreeBelow N.places m m' → AgreeBelow N.places (after N m order) (after N m' order)
  agree_after [] m m' e = e
  agree_after (t ∷ ts) m m' e = agree_after ts (fired N m t) (fired N m' t) (agree_fired m m' t e)

  module _ (inside : InputsInside N) where
    can_fire_like : (order : List ℕ) (m m' : Marking) → AgreeBelow N.places m m' → CanFire N m order → CanFire N m' order
    can_fire_like [] m m' e c = tt
    can_fire_like (t ∷ ts) m m' e c = (
      c.0,
      subst (λ (k : ℕ). 0 < k) (e (N.input t) (inside t c.0)) c.1,
      can_fire_like ts (fired N m t) (fired N m' t) (agree_fired m m' t e) c.2,
    )

    module _ (m m' : Marking) (x x' : Tally) (e : AgreeBelow N.places m m') (f : AgreeBelow N.steps x x') where
      realizes_like : (order : List ℕ) → Realizes N m x order → Realizes N m' x' order
      realizes_like order r = (can_fire_like order m m' e r.0, λ t l. omega (arith, r.1 t l, f t l))

      reached_like : (p : ℕ) → IsReached N m x p → p < N.places → IsReached N m' x' p
      reached_like =
          reached_fold N m x (λ q. q < N.places → IsReached N m' x' q)
          (λ q h l. marked (subst (λ (k : ℕ). 0 < k) (e q l) h))
          (λ t q l h r y _. through t l (subst (λ (k : ℕ). 0 < k) (f t l) h) (r (inside t l)) y)

pub first_like : (N : NetMeaning) → InputsInside N → (m m' : Marking) (x x' : Tally) →
    AgreeBelow N.places m m' → AgreeBelow N.steps x x' → (order : List ℕ) → First N m x order → First N m' x' order
first_like N inside m m' x x' e f order h = record {
  realizes = realizes_like N inside m m' x x' e f order h.realizes;
  before_others = λ other r.
      h.before_others other (realizes_like N inside m' m x' x (λ i l. sym (e i l)) (λ i l. sym (f i l)) other r);
}

pub agreeing_exchanged : AgreeingExchanged
agreeing_exchanged N inside m m' x x' e f = record {
  can_fire = λ order. can_fire_like N inside order m m' e;
  after_it = λ order. agree_after N order m m' e;
  realizes = realizes_like N inside m m' x x' e f;
  reached = λ p l r. reached_like N inside m m' x x' e f p r l;
  first = first_like N inside m m' x x' e f;
  first_order = λ r.
      first_is_one N m' x' (first_order N m x) (first_order N m' x')
      (first_like N inside m m' x x' e f (first_order N m x) (computed_is_first N inside m x r))
      (computed_is_first N inside m' x' (r.0, realizes_like N inside m m' x x' e f r.0 r.1));
}
