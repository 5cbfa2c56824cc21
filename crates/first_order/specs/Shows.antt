-- What a schedule shows: a net, a marking and the tally that is left.
use Rattle.std.specs.Prelude.{◌≡◌, ℕ, ◌<◌, Bool, ◌&&◌, nat_lt}
use Rattle.theory.specs.Nets.{NetMeaning, NetLaw}
use Rattle.theory.specs.Rows.{at}
use Rattle.theory.specs.Firing.{Marking}
use Rattle.theory.specs.Tallies.{Tally, NoPlaceCutOff}
use Rattle.theory.specs.Tests.{is_safe}
use Rattle.sets.specs.Flags.{has}
use Rattle.first_order.specs.declared.schedule.Schedule.{Schedule}
use Rattle.reached.specs.Led.{has_at}
use Rattle.reached.specs.Leads.{leads_to}
use Rattle.first_order.specs.Tables.{Readied}

-- the step t is a step of the net, and left in the tally
abbrev pub is_left : NetMeaning → Tally → ℕ → Bool
is_left N x t = nat_lt t N.steps && nat_lt 0 (x t)

-- the schedule shows the net, the marking and the tally; no `impl Model`, as the tables tell of a net and a tally only
-- below the number of steps
pub record Shows (N : NetMeaning) (m : Marking) (x : Tally) (s : Schedule) : Type 0 where
  pub left : (t : ℕ) → t < N.steps → at s.left t ≡ x t
  pub inputs : (t : ℕ) → at s.inputs t ≡ N.input t
  pub yields : (t p : ℕ) → has_at s.yields t p ≡ nat_lt 0 (N.yields t p)
  pub counts : (p : ℕ) → at s.counts p ≡ m p
  pub marked : (p : ℕ) → has s.marked p ≡ (nat_lt p N.places && nat_lt 0 (m p))
  pub before : (p q : ℕ) → has_at s.origins.before p q ≡ leads_to N x q p
  pub ready : Readied (is_left N x) N.input s

-- what holds of every lawful net, marking and tally that the schedule shows
abbrev pub WhereShown : Schedule → (NetMeaning → Marking → Tally → Type 0) → Type 0
WhereShown s P = (N : NetMeaning) (m : Marking) (x : Tally) → NetLaw N → Shows N m x s → P N m x

-- b says whether t is safe, where no place is cut off
pub record TellsSafe (s : Schedule) (t : ℕ) (b : Bool) : Type 0 where
  pub told : WhereShown s (λ N m x. NoPlaceCutOff N m x → t < N.steps → b ≡ is_safe N m x t)
