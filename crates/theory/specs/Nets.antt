-- What a net means, and the law of every net.
use Rattle.std.specs.Prelude.{◌≡◌, ℕ, ◌<◌, ◌≤◌}

-- All that can be known of a net by asking: how many places and steps (transitions) it has, numbered from 0;
-- from which place a step, when it is fired, takes its one block (token); and how many blocks it puts down at
-- each place (the weights of its outgoing arcs).
pub record NetMeaning : Type 0 where
  pub places : ℕ
  pub steps : ℕ
  pub input : ℕ → ℕ
  pub yields : ℕ → ℕ → ℕ

-- each step takes its block at a place of the net
abbrev pub InputsInside : NetMeaning → Type 0
InputsInside N = (t : ℕ) → t < N.steps → N.input t < N.places

-- the limits of every net; what it says of places and steps that it has not is fixed at 0, so that nets with
-- the same answers have the same meaning
pub record NetLaw (N : NetMeaning) : Type 0 where
  pub some_place : 1 ≤ N.places
  pub few_places : N.places ≤ 64
  pub few_steps : N.steps ≤ 128
  pub inputs_inside : InputsInside N
  pub no_input_outside_steps : (t : ℕ) → N.steps ≤ t → N.input t ≡ 0
  pub yields_small : (t p : ℕ) → N.yields t p ≤ 255
  pub no_yield_outside_steps : (t p : ℕ) → N.steps ≤ t → N.yields t p ≡ 0
  pub no_yield_outside_places : (t p : ℕ) → N.places ≤ p → N.yields t p ≡ 0
  pub yields_something : (t : ℕ) → t < N.steps → (p : ℕ) × (0 < N.yields t p)

-- a net within its limits
pub record LawfulNet : Type 0 where
  pub net : NetMeaning
  pub law : NetLaw net
