-- Tallies (Parikh vectors): what they ask of each place, and which orders do them.
use Rattle.std.specs.Prelude.{◌≡◌, ℕ, ◌+◌, ◌*◌, ◌<◌, ◌⊎◌, List, ℤ, pos, ◌-ℤ◌}
use Rattle.theory.specs.Sums.{sum_to}
use Rattle.theory.specs.Nets.{NetMeaning}
use Rattle.theory.specs.Firing.{Marking, one_at, CanFire, times}

-- a tally says of each step how often it is to be fired, and nothing about the order (a Parikh vector)
abbrev pub Tally : Type 0
Tally = ℕ → ℕ

-- how many steps the tally asks for
abbrev pub steps_asked : NetMeaning → Tally → ℕ
steps_asked N x = sum_to x N.steps

-- the order does the tally (realizes the Parikh vector): it can be fired, and has each step as often as is asked
abbrev pub Realizes : NetMeaning → Marking → Tally → List ℕ → Type 0
Realizes N m x order = CanFire N m order × ((t : ℕ) → t < N.steps → times order t ≡ x t)

-- the tally can be done: some order does it
abbrev pub Realizable : NetMeaning → Marking → Tally → Type 0
Realizable N m x = (order : List ℕ) × Realizes N m x order

-- the blocks that the steps of the tally take from the place p
abbrev pub spent : NetMeaning → Tally → ℕ → ℕ
spent N x p = sum_to (λ t. x t * one_at (N.input t) p) N.steps

-- the blocks that the steps of the tally yield at the place p
abbrev pub gained : NetMeaning → Tally → ℕ → ℕ
gained N x p = sum_to (λ t. x t * N.yields t p) N.steps

-- the final number: what the marking equation gives for p, from the marking, what the tally brings and what it takes
abbrev pub final_number : NetMeaning → Marking → Tally → ℕ → ℤ
final_number N m x p = pos (m p + gained N x p) -ℤ pos (spent N x p)

-- the place p is short: all that lies there and all that the tally brings do not cover what the tally takes
abbrev pub IsShort : NetMeaning → Marking → Tally → ℕ → Type 0
IsShort N m x p = m p + gained N x p < spent N x p

-- p is a place of the tally's subnet, the net of the steps that it asks for: one of them has an arc from p or to p
abbrev pub InSubnet : NetMeaning → Tally → ℕ → Type 0
InSubnet N x p = (t : ℕ) × (t < N.steps) × (0 < x t) × ((N.input t ≡ p) ⊎ (0 < N.yields t p))

-- p is reached: p is marked, or the tally's steps, as arrows from input to yields, lead there from a marked place
pub data IsReached (N : NetMeaning) (m : Marking) (x : Tally) : ℕ → Type 0 where
  marked : {p : ℕ} → 0 < m p → IsReached N m x p
  through : {p : ℕ} (t : ℕ) → t < N.steps → 0 < x t → IsReached N m x (N.input t) →
      0 < N.yields t p → IsReached N m x p

-- p is cut off: steps of the tally use it, and no block can come there by them (it lies in an unmarked siphon)
abbrev pub IsCutOff : NetMeaning → Marking → Tally → ℕ → Type 0
IsCutOff N m x p = InSubnet N x p × (IsReached N m x p → ⊥)

-- no place of the net is short
abbrev pub NoPlaceShort : NetMeaning → Marking → Tally → Type 0
NoPlaceShort N m x = (p : ℕ) → p < N.places → IsShort N m x p → ⊥

-- no place of the net is cut off
abbrev pub NoPlaceCutOff : NetMeaning → Marking → Tally → Type 0
NoPlaceCutOff N m x = (p : ℕ) → p < N.places → IsCutOff N m x p → ⊥
