-- The theorems. They ask of a net only that each step takes its block inside it; a step may yield nothing.
use Rattle.std.specs.Prelude.{◌≡◌, ℕ, ◌+◌, ◌-◌, ◌<◌, Bool, true, false, ◌⊎◌, ◌↔◌}
use Rattle.std.specs.Prelude.{List, [], ◌∷◌, ◌++◌, length, pos, ◌<ℤ◌, Some, None, IsTrue, ◌≢◌}
use Rattle.theory.specs.Nets.{NetMeaning, InputsInside}
use Rattle.theory.specs.Firing.{Marking, fired, CanFire, after, times}
use Rattle.theory.specs.Tallies.{Tally, Realizes, Realizable, final_number, IsShort, InSubnet, IsReached, IsCutOff}
use Rattle.theory.specs.Tallies.{NoPlaceShort, NoPlaceCutOff}
use Rattle.theory.specs.Orders.{Earlier, First, less, IsSafe, LeastSafeEachTime}
use Rattle.theory.specs.Tests.{least, is_short, in_subnet, is_reached, is_cut_off, can_be_done, is_safe, first_order}

-- WHICH TALLIES CAN BE DONE

-- the two causes are the only ones: a Parikh vector is realizable just where it leaves no place short or cut off
abbrev pub DoneExactlyIf : Type 0
DoneExactlyIf =
    (N : NetMeaning) → InputsInside N → (m : Marking) (x : Tally) →
    Realizable N m x ↔ (NoPlaceShort N m x × NoPlaceCutOff N m x)

-- all orders of one tally lead to one marking, that of the marking equation
abbrev pub EndsAtFinalNumbers : Type 0
EndsAtFinalNumbers =
    (N : NetMeaning) (m : Marking) (x : Tally) (order : List ℕ) → Realizes N m x order →
    (p : ℕ) → pos (after N m order p) ≡ final_number N m x p

-- short, said by the marking equation: what it gives is negative
abbrev pub ShortBelowZero : Type 0
ShortBelowZero =
    (N : NetMeaning) (m : Marking) (x : Tally) (p : ℕ) → IsShort N m x p ↔ (final_number N m x p <ℤ pos 0)

-- WHICH ORDER IS THE FIRST

-- while a step is left there is a safe one
abbrev pub SafeStepExists : Type 0
SafeStepExists =
    (N : NetMeaning) → InputsInside N → (m : Marking) (x : Tally) → NoPlaceShort N m x → NoPlaceCutOff N m x →
    (t : ℕ) → t < N.steps → 0 < x t → (s : ℕ) × IsSafe N m x s

-- an order in which each step is the least safe one, when its turn comes, is the first
abbrev pub LeastSafeIsFirst : Type 0
LeastSafeIsFirst =
    (N : NetMeaning) (m : Marking) (x : Tally) (order : List ℕ) → LeastSafeEachTime N m x order →
    First N m x order

-- the computed order does so, for every tally that can be done
abbrev pub ComputedIsLeastSafe : Type 0
ComputedIsLeastSafe =
    (N : NetMeaning) → InputsInside N → (m : Marking) (x : Tally) → Realizable N m x →
    LeastSafeEachTime N m x (first_order N m x)

-- so it is the first order
abbrev pub ComputedIsFirst : Type 0
ComputedIsFirst =
    (N : NetMeaning) → InputsInside N → (m : Marking) (x : Tally) → Realizable N m x →
    First N m x (first_order N m x)

-- there is one first order
abbrev pub FirstIsOne : Type 0
FirstIsOne =
    (N : NetMeaning) (m : Marking) (x : Tally) (order other : List ℕ) → First N m x order →
    First N m x other → order ≡ other

-- the first order goes on from its first step: the least safe step, then the first order of the rest after it
abbrev pub FirstOrderGoesOn : Type 0
FirstOrderGoesOn =
    (N : NetMeaning) → InputsInside N → (m : Marking) (x : Tally) (t : ℕ) → IsSafe N m x t →
    ((u : ℕ) → u < t → IsSafe N m x u → ⊥) →
    first_order N m x ≡ t ∷ first_order N (fired N m t) (less x t)

-- and ends where no step is left
abbrev pub FirstOrderEnds : Type 0
FirstOrderEnds =
    (N : NetMeaning) (m : Marking) (x : Tally) → ((t : ℕ) → t < N.steps → x t ≡ 0) →
    first_order N m x ≡ []

-- HOW A SAFE STEP IS FOUND

-- firing a step of the tally changes no final number
abbrev pub FiringKeepsFinalNumbers : Type 0
FiringKeepsFinalNumbers =
    (N : NetMeaning) (m : Marking) (x : Tally) (t : ℕ) → t < N.steps → 0 < x t → 0 < m (N.input t) →
    (p : ℕ) → final_number N (fired N m t) (less x t) p ≡ final_number N m x p

-- of a tally that can be done, a step that is left and can be fired is safe exactly if its input place is reached again
-- after it, or no step left takes from there
abbrev pub SafeByItsInput : Type 0
SafeByItsInput =
    (N : NetMeaning) → InputsInside N → (m : Marking) (x : Tally) → Realizable N m x →
    (t : ℕ) → t < N.steps → 0 < x t → 0 < m (N.input t) →
    IsSafe N m x t ↔ (IsReached N (fired N m t) (less x t) (N.input t)
    ⊎ ((u : ℕ) → u < N.steps → 0 < less x t u → N.input u ≢ N.input t))

-- a set of reached places with all marked ones in it, which no step of the tally leads out of: it lacks none
pub record ClosedSet (N : NetMeaning) (m : Marking) (x : Tally) (set : ℕ → Bool) : Type 0 where
  pub has_marked : (p : ℕ) → p < N.places → 0 < m p → set p ≡ true
  pub has_reached_only : (p : ℕ) → p < N.places → set p ≡ true → IsReached N m x p
  pub closed : (t p : ℕ) → t < N.steps → 0 < x t → set (N.input t) ≡ true → p < N.places →
      0 < N.yields t p → set p ≡ true

-- so any way to find such a set finds the reached places
abbrev pub ClosedSetIsReached : Type 0
ClosedSetIsReached =
    (N : NetMeaning) → InputsInside N → (m : Marking) (x : Tally) (set : ℕ → Bool) → ClosedSet N m x set →
    (p : ℕ) → p < N.places → set p ≡ is_reached N m x p

-- HOW ORDERS COMPARE

-- of two orders at most one is earlier, and none is earlier than itself
abbrev pub EarlierOneWay : Type 0
EarlierOneWay = (a b : List ℕ) → Earlier a b → Earlier b a → ⊥

-- what is earlier than an earlier order is earlier (transitive)
abbrev pub EarlierGoesOn : Type 0
EarlierGoesOn = (a b c : List ℕ) → Earlier a b → Earlier b c → Earlier a c

-- of two different orders of one length one is earlier
abbrev pub EarlierCompares : Type 0
EarlierCompares = (a b : List ℕ) → length a ≡ length b → (a ≡ b) ⊎ (Earlier a b ⊎ Earlier b a)

-- WHAT THE TESTS DECIDE

-- the test for a short place says what is meant, and so below for each test
abbrev pub ShortDecided : Type 0
ShortDecided = (N : NetMeaning) (m : Marking) (x : Tally) (p : ℕ) → IsTrue (is_short N m x p) ↔ IsShort N m x p

-- a place of the subnet
abbrev pub SubnetDecided : Type 0
SubnetDecided = (N : NetMeaning) (x : Tally) (p : ℕ) → IsTrue (in_subnet N x p) ↔ InSubnet N x p

-- a reached place: as many rounds as there are places find it
abbrev pub ReachedDecided : Type 0
ReachedDecided =
    (N : NetMeaning) → InputsInside N → (m : Marking) (x : Tally) (p : ℕ) → p < N.places →
    IsTrue (is_reached N m x p) ↔ IsReached N m x p

-- a cut-off place
abbrev pub CutOffDecided : Type 0
CutOffDecided =
    (N : NetMeaning) → InputsInside N → (m : Marking) (x : Tally) (p : ℕ) → p < N.places →
    IsTrue (is_cut_off N m x p) ↔ IsCutOff N m x p

-- a tally that can be done
abbrev pub DoneDecided : Type 0
DoneDecided =
    (N : NetMeaning) → InputsInside N → (m : Marking) (x : Tally) →
    IsTrue (can_be_done N m x) ↔ Realizable N m x

-- a safe step, where no place is short
abbrev pub SafeDecided : Type 0
SafeDecided =
    (N : NetMeaning) → InputsInside N → (m : Marking) (x : Tally) → NoPlaceShort N m x →
    (t : ℕ) → IsTrue (is_safe N m x t) ↔ IsSafe N m x t

-- k, below n, passes the test, and nothing below k does
pub record IsLeast (b : ℕ → Bool) (n k : ℕ) : Type 0 where
  pub inside : k < n
  pub passes : b k ≡ true
  pub least : (j : ℕ) → j < k → b j ≡ false

-- least finds the least number that passes
abbrev pub LeastFound : Type 0
LeastFound = (b : ℕ → Bool) (n k : ℕ) → (least b n ≡ Some k) ↔ IsLeast b n k

-- and nothing exactly if none passes
abbrev pub NoneFound : Type 0
NoneFound = (b : ℕ → Bool) (n : ℕ) → (least b n ≡ None) ↔ ((k : ℕ) → k < n → b k ≡ false)

-- ONE ORDER AFTER ANOTHER

-- two orders can be fired one after the other exactly if the second can from where the first ends
abbrev pub CanFireAppended : Type 0
CanFireAppended =
    (N : NetMeaning) (m : Marking) (a b : List ℕ) →
    CanFire N m (a ++ b) ↔ (CanFire N m a × CanFire N (after N m a) b)

-- they end where the second ends
abbrev pub AfterAppended : Type 0
AfterAppended =
    (N : NetMeaning) (m : Marking) (a b : List ℕ) (p : ℕ) → after N m (a ++ b) p ≡ after N (after N m a) b p

-- their counts add up
abbrev pub TimesAppended : Type 0
TimesAppended = (a b : List ℕ) (t : ℕ) → times (a ++ b) t ≡ times a t + times b t

-- they do both tallies together
abbrev pub RealizesAppended : Type 0
RealizesAppended =
    (N : NetMeaning) (m : Marking) (x y : Tally) (a b : List ℕ) →
    Realizes N m x a → Realizes N (after N m a) y b → Realizes N m (λ t. x t + y t) (a ++ b)

-- the final numbers of both orders are those of the second from where the first ends
abbrev pub FinalNumbersAppended : Type 0
FinalNumbersAppended =
    (N : NetMeaning) (m : Marking) (x y : Tally) (a : List ℕ) → Realizes N m x a →
    (p : ℕ) → final_number N m (λ t. x t + y t) p ≡ final_number N (after N m a) y p

-- a front of the first order is the first order of its own counts
abbrev pub FrontIsFirst : Type 0
FrontIsFirst =
    (N : NetMeaning) (m : Marking) (x : Tally) (a b : List ℕ) → First N m x (a ++ b) → First N m (times a) a

-- and the rest is the first order of what is left
abbrev pub RestIsFirst : Type 0
RestIsFirst =
    (N : NetMeaning) (m : Marking) (x : Tally) (a b : List ℕ) → First N m x (a ++ b) →
    First N (after N m a) (λ t. x t - times a t) b

-- ONLY THE NET'S PLACES AND STEPS COUNT

-- the two have the same number at each index below n
abbrev pub AgreeBelow : ℕ → (ℕ → ℕ) → (ℕ → ℕ) → Type 0
AgreeBelow n f g = (i : ℕ) → i < n → f i ≡ g i

-- what holds from the marking m for the tally x
pub record Exchanged (N : NetMeaning) (m m' : Marking) (x x' : Tally) : Type 0 where
  pub can_fire : (order : List ℕ) → CanFire N m order → CanFire N m' order
  pub after_it : (order : List ℕ) → AgreeBelow N.places (after N m order) (after N m' order)
  pub realizes : (order : List ℕ) → Realizes N m x order → Realizes N m' x' order
  pub reached : (p : ℕ) → p < N.places → IsReached N m x p → IsReached N m' x' p
  pub first : (order : List ℕ) → First N m x order → First N m' x' order
  pub first_order : Realizable N m x → first_order N m x ≡ first_order N m' x'

-- markings that agree on the places, and tallies that agree on the steps, can be exchanged
abbrev pub AgreeingExchanged : Type 0
AgreeingExchanged =
    (N : NetMeaning) → InputsInside N → (m m' : Marking) (x x' : Tally) →
    AgreeBelow N.places m m' → AgreeBelow N.steps x x' → Exchanged N m m' x x'
