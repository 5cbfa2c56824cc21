-- What a sitting holds, and the limits that its calls check.
use Rattle.std.specs.Prelude.{◌≡◌, ℕ, ◌*◌, List}
use Rattle.theory.specs.Sums.{sum_to}
use Rattle.theory.specs.Nets.{NetMeaning}
use Rattle.theory.specs.Firing.{Marking}
use Rattle.theory.specs.Tallies.{Tally}
use Rattle.theory.specs.Rows.{at}

-- what a sitting has to remember of its board and of its work: the marking, how many blocks more would fit on the
-- board, and the Parikh vector of all steps fired since it was new
pub record State : Type 0 where
  pub counts : Marking
  pub spare : ℕ
  pub done : Tally

-- the sitting is new: nothing was fired yet, and its board may hold what it likes
abbrev pub New : State → Type 0
New s = (t : ℕ) → s.done t ≡ 0

-- a new sitting on a board with these counts and this spare
abbrev pub new_on : Marking → ℕ → State
new_on counts spare = record { counts = counts; spare = spare; done = λ t. 0 }

-- the steps done in all, over the 128 counts of the done row
abbrev pub done_total : State → ℕ
done_total s = sum_to s.done 128

-- the most steps that a sitting does
abbrev pub done_limit : ℕ
done_limit = 65535

-- how much memory a survey asks for: with three causes and 64 places no list is longer
abbrev pub findings_needed : ℕ
findings_needed = 192

-- a target marking, and whether it is to be reached exactly (kind 0) or covered (kind 1)
pub record Target : Type 0 where
  pub numbers : List ℕ
  pub kind : ℕ

-- an exact target, and an at-least target
abbrev pub exact : List ℕ → Target
exact numbers = record { numbers = numbers; kind = 0 }

abbrev pub at_least : List ℕ → Target
at_least numbers = record { numbers = numbers; kind = 1 }

-- all blocks that one firing of the step yields
abbrev pub yields_of : NetMeaning → ℕ → ℕ
yields_of N t = sum_to (N.yields t) N.places

-- all blocks that the steps of the tally yield
abbrev pub yields_asked : NetMeaning → Tally → ℕ
yields_asked N x = sum_to (λ t. x t * yields_of N t) N.steps

-- what a sitting holds, from the counts and spare of its board and its done row
abbrev pub state_of : Marking → ℕ → List ℕ → State
state_of counts spare done = record { counts = counts; spare = spare; done = at done }

-- a target, from its lent row and its kind
abbrev pub target_of : List ℕ → ℕ → Target
target_of numbers kind = record { numbers = numbers; kind = kind }
