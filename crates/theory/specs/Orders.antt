-- Which of the orders that do a tally is the first, and how it is found step by step.
use Rattle.std.specs.Prelude.{◌≡◌, ℕ, ◌-◌, ◌<◌, ◌⊎◌, List, [], ◌∷◌}
use Rattle.theory.specs.Nets.{NetMeaning}
use Rattle.theory.specs.Firing.{Marking, one_at, fired}
use Rattle.theory.specs.Tallies.{Tally, Realizes, Realizable}

-- the lexicographic order on firing sequences: at the first position that tells two apart, the lower step is earlier
abbrev pub Earlier : List ℕ → List ℕ → Type 0
Earlier [] us = ⊥
Earlier (t ∷ ts) [] = ⊥
Earlier (t ∷ ts) (u ∷ us) = (t < u) ⊎ ((t ≡ u) × Earlier ts us)

-- the first order: the lexicographically least among the firing sequences of the tally
pub record First (N : NetMeaning) (m : Marking) (x : Tally) (order : List ℕ) : Type 0 where
  pub realizes : Realizes N m x order
  pub before_others : (other : List ℕ) → Realizes N m x other → (order ≡ other) ⊎ Earlier order other

-- the tally with the step t done once
abbrev pub less : Tally → ℕ → Tally
less x t u = x u - one_at t u

-- t is safe: the tally asks for it, it can be fired at once, and some order still does all that is then left
abbrev pub IsSafe : NetMeaning → Marking → Tally → ℕ → Type 0
IsSafe N m x t = (t < N.steps) × (0 < x t) × (0 < m (N.input t)) × Realizable N (fired N m t) (less x t)

-- at each position of the order stands the least safe step
abbrev pub LeastSafeEachTime : NetMeaning → Marking → Tally → List ℕ → Type 0
LeastSafeEachTime N m x [] = (t : ℕ) → t < N.steps → x t ≡ 0
LeastSafeEachTime N m x (t ∷ ts) =
    IsSafe N m x t × ((u : ℕ) → u < t → IsSafe N m x u → ⊥)
    × LeastSafeEachTime N (fired N m t) (less x t) ts
