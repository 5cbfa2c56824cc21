-- The firing rule: how a step moves blocks, which orders can be fired, and what an order leaves.
-- The nets are the communication-free Petri nets: each transition takes one token from one place.
use Rattle.std.specs.Prelude.{ℕ, ◌+◌, ◌-◌, ◌<◌, if◌then◌else◌, List, [], ◌∷◌, ◌==◌}
use Rattle.theory.specs.Nets.{NetMeaning}

-- a marking: the number of blocks (tokens) at each place
abbrev pub Marking : Type 0
Marking = ℕ → ℕ

-- n at the number itself, 0 at every other
abbrev pub only_at : ℕ → ℕ → ℕ → ℕ
only_at a b n = if a == b then n else 0

-- 1 where the two numbers are equal, else 0 (the unit vector of a, at b)
abbrev pub one_at : ℕ → ℕ → ℕ
one_at a b = only_at a b 1

-- firing the transition t: one token goes from its input place, and after that the tokens that it yields arrive
abbrev pub fired : NetMeaning → Marking → ℕ → Marking
fired N m t p = (m p - one_at (N.input t) p) + N.yields t p

-- the order (firing sequence) is enabled at the marking: whenever a step's turn comes, its input place is marked
abbrev pub CanFire : NetMeaning → Marking → List ℕ → Type 0
CanFire N m [] = Unit {0}
CanFire N m (t ∷ ts) = (t < N.steps) × (0 < m (N.input t)) × CanFire N (fired N m t) ts

-- the marking that the order leads to
abbrev pub after : NetMeaning → Marking → List ℕ → Marking
after N m [] = m
after N m (t ∷ ts) = after N (fired N m t) ts

-- the Parikh vector of an order: the number of times that a step stands in it
abbrev pub times : List ℕ → ℕ → ℕ
times [] t = 0
times (u ∷ us) t = one_at u t + times us t
