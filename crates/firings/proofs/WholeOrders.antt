-- An order moved on a board step by step: what of it is left.
use Rattle.std.proofs.Common.{◌≡◌, ℕ, ◌+◌, ◌-◌, ◌≤◌, true, not, ltb, List, ◌∷◌, length, sym, ap, ◌∙◌, subst, arith}
use Rattle.std.proofs.lemmas.Bool.{and_from, lt-ltb, le-ltb}
use Rattle.theory.specs.Nets.{NetMeaning}
use Rattle.theory.specs.Firing.{Marking, CanFire, after}
use Rattle.theory.specs.Tallies.{Tally, Realizes, steps_asked, spent, gained}
use Rattle.theory.proofs.Realized.{leaves, length_is}
use Rattle.answers.specs.States.{yields_of, yields_asked}
use Rattle.answers.specs.Calls.{order_yields}
use Rattle.answers.proofs.Leading.{yields_is}
use mathlib.Core.Path.{fun_ext}
use Rattle.firings.specs.Moves.{can_move, Moved}

-- the steps that are left of an order which was to be moved from m₀, with spare₀
pub record LeftOf (N : NetMeaning) (order : List ℕ) (m₀ : Marking) (spare₀ : ℕ) (rest : List ℕ) (m : Marking) (spare : ℕ) : Type 0 where
  pub fires : CanFire N m rest
  pub room : order_yields N rest ≤ spare
  pub leads : after N m rest ≡ after N m₀ order
  pub moved : (spare + length rest) + order_yields N order ≡ (spare₀ + length order) + order_yields N rest

module _ (N : NetMeaning) (order : List ℕ) (m₀ : Marking) (spare₀ : ℕ) (t : ℕ) (rest : List ℕ) (m : Marking) (spare : ℕ)
    (h : LeftOf N order m₀ spare₀ (t ∷ rest) m spare) where
  -- its next step can be moved
  pub next_moves : can_move N m spare t ≡ true
  next_moves =
      and_from (ltb t N.steps) _ (lt-ltb t N.steps h.fires.0)
      (and_from (ltb 0 (m (N.input t))) _ (lt-ltb 0 (m (N.input t)) h.fires.1)
      (ap not (le-ltb (spare + 1) (yields_of N t) (omega (arith, h.room)))))

  -- and one less is left after it
  pub left_after : (m' : Marking) (spare' : ℕ) → Moved N t m spare m' spare' → LeftOf N order m₀ spare₀ rest m' spare'
  left_after m' spare' moved = record {
    fires = subst (λ (z : Marking). CanFire N z rest) (sym moved.0) h.fires.2;
    room = omega (arith, h.room, moved.1);
    leads = ap (λ (z : Marking). after N z rest) moved.0 ∙ h.leads;
    moved = omega (arith, h.moved, h.room, moved.1);
  }

-- an order that does the tally, with spare for all that it yields
module _ (N : NetMeaning) (m : Marking) (x : Tally) (order : List ℕ) (does : Realizes N m x order) (spare : ℕ) (room : yields_asked N x ≤ spare) where
  pub order_fits : order_yields N order ≤ spare
  order_fits = omega (arith, room, yields_is N m x order does)

  -- what is left of spare when each step was moved
  pub spare_after_each : (spare' : ℕ) → spare' + order_yields N order ≡ spare + length order → spare' ≡ (spare + steps_asked N x) - yields_asked N x
  spare_after_each spare' e = omega (arith, e, yields_is N m x order does, length_is N m x order does)

  -- and what lies at the places, when all was moved at once
  pub counts_after_all : (m' : Marking) → ((p : ℕ) → m' p + spent N x p ≡ m p + gained N x p) → m' ≡ after N m order
  counts_after_all m' e = fun_ext (λ p. omega (arith, e p, leaves N m x order does p))

  pub spare_after_all : (spare' : ℕ) → spare' + yields_asked N x ≡ spare + length order → spare' ≡ (spare + steps_asked N x) - yields_asked N x
  spare_after_all spare' e = omega (arith, e, length_is N m x order does)
