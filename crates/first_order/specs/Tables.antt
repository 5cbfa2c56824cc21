-- What the tables of a schedule say by themselves.
use Rattle.std.specs.Prelude.{◌≡◌, ℕ, Bool, true, false, not, ◌&&◌, ◌||◌, ◌⊎◌, ◌==◌, nat_lt}
use Rattle.theory.specs.Rows.{at}
use Rattle.theory.specs.Tests.{any_below}
use Rattle.sets.specs.Flags.{has}
use Rattle.reached.specs.Led.{has_at}
use Rattle.first_order.specs.declared.schedule.Schedule.{Schedule}

-- a schedule of nothing
pub record Fresh (s : Schedule) : Type 0 where
  pub inputs : (t : ℕ) → at s.inputs t ≡ 0
  pub yields : (t : ℕ) → at s.yields t ≡ 0
  pub takers : (p : ℕ) → at s.takers p ≡ 0
  pub before : (p : ℕ) → at s.origins.before p ≡ 0

-- the place at which the step t takes
abbrev pub input_in : Schedule → ℕ → ℕ
input_in s t = at s.inputs t

-- the step t yields at p
abbrev pub yields_in : Schedule → ℕ → ℕ → Bool
yields_in s t p = has_at s.yields t p

-- the input place of t holds a block after t: it has another, or t yields there
abbrev pub keeps_in : Schedule → ℕ → Bool
keeps_in s t = nat_lt 1 (at s.counts (at s.inputs t)) || has_at s.yields t (at s.inputs t)

-- p holds a block after t took the last one at its input place
abbrev pub marked_after : Schedule → ℕ → ℕ → Bool
marked_after s t p = (has s.marked p && not (p == at s.inputs t)) || has_at s.yields t p

-- the answer says whether t is left once, and no other step that is left takes at its input place
abbrev pub TakesLast : Schedule → ℕ → Bool → Type 0
TakesLast s t true = (at s.left t ≡ 1) × ((u : ℕ) → has_at s.takers (at s.inputs t) u ≡ true → u ≡ t)
TakesLast s t false = (at s.left t ≡ 1 → ⊥)
    ⊎ ((u : ℕ) × (has_at s.takers (at s.inputs t) u ≡ true) × (u ≡ t → ⊥))

-- the two differ at most in what searches found
pub record Kept (s s' : Schedule) : Type 0 where
  pub left : s'.left ≡ s.left
  pub inputs : s'.inputs ≡ s.inputs
  pub yields : s'.yields ≡ s.yields
  pub counts : s'.counts ≡ s.counts
  pub marked : s'.marked ≡ s.marked
  pub ready : s'.ready ≡ s.ready
  pub takers : s'.takers ≡ s.takers
  pub before : s'.origins.before ≡ s.origins.before

-- which steps take where and which of them find a block, of those that are left and by their inputs
pub record Readied (left : ℕ → Bool) (input : ℕ → ℕ) (s : Schedule) : Type 0 where
  pub takers : (p t : ℕ) → has_at s.takers p t ≡ (left t && input t == p)
  pub ready : (t : ℕ) → has s.ready t ≡ (left t && has s.marked (input t))

-- the two differ at most in which places are marked and which steps are ready, and these agree as before
pub record KeepsReady (s s' : Schedule) : Type 0 where
  pub left : s'.left ≡ s.left
  pub inputs : s'.inputs ≡ s.inputs
  pub yields : s'.yields ≡ s.yields
  pub counts : s'.counts ≡ s.counts
  pub before : s'.origins.before ≡ s.origins.before
  pub ready : (left : ℕ → Bool) (input : ℕ → ℕ) → Readied left input s → Readied left input s'

-- t is among the steps that are left, if it is to be done
pub record Asked (s : Schedule) (t : ℕ) (s' : Schedule) : Type 0 where
  pub left : s'.left ≡ s.left
  pub inputs : s'.inputs ≡ s.inputs
  pub yields : s'.yields ≡ s.yields
  pub counts : s'.counts ≡ s.counts
  pub marked : s'.marked ≡ s.marked
  pub takers : (p u : ℕ) → has_at s'.takers p u
      ≡ (has_at s.takers p u || (nat_lt 0 (at s.left t) && (p == at s.inputs t && u == t)))
  pub before : (p q : ℕ) → has_at s'.origins.before p q
      ≡ (has_at s.origins.before p q || (nat_lt 0 (at s.left t) && (has_at s.yields t p && q == at s.inputs t)))

-- some step that a net may have passes the test
unfoldable pub any_step : (ℕ → Bool) → Bool
any_step b = any_below b 128

-- where t yields, and none of the other steps that take at its input place does
abbrev pub lost_by : Schedule → ℕ → ℕ → Bool
lost_by s t p =
    has_at s.yields t p && not (any_step (λ u. (has_at s.takers (at s.inputs t) u && not (u == t))
    && has_at s.yields u p))

-- t is taken out of the steps that are left
pub record Finished (s : Schedule) (t : ℕ) (s' : Schedule) : Type 0 where
  pub left : s'.left ≡ s.left
  pub inputs : s'.inputs ≡ s.inputs
  pub yields : s'.yields ≡ s.yields
  pub counts : s'.counts ≡ s.counts
  pub marked : s'.marked ≡ s.marked
  pub takers : (p u : ℕ) → has_at s'.takers p u ≡ (has_at s.takers p u && not (p == at s.inputs t && u == t))
  pub ready : (u : ℕ) → has s'.ready u ≡ (has s.ready u && not (u == t))
  pub before : (p q : ℕ) → has_at s'.origins.before p q
      ≡ (has_at s.origins.before p q && not (lost_by s t p && q == at s.inputs t))
