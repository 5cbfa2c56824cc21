-- The firing rule on a board: when a step can be fired there, and what that leaves.
use Rattle.std.specs.Prelude.{◌≡◌, ℕ, ◌+◌, ◌-◌, Bool, not, ◌&&◌, nat_lt, List, length}
use Rattle.theory.specs.Nets.{NetMeaning}
use Rattle.theory.specs.Firing.{Marking, fired, after}
use Rattle.theory.specs.Tallies.{Tally, spent, gained}
use Rattle.answers.specs.Calls.{order_yields}
use Rattle.answers.specs.States.{yields_of, yields_asked}
use Rattle.boards.specs.Boards.{MoveAllSays}

-- the transition is enabled, and the board has room for its yields once the block that it takes has made some
abbrev pub can_move : NetMeaning → Marking → ℕ → ℕ → Bool
can_move N m spare t =
    nat_lt t N.steps && (nat_lt 0 (m (N.input t)) && not (nat_lt (spare + 1) (yields_of N t)))

-- what is left on a board on which the step was fired
abbrev pub Moved : NetMeaning → ℕ → Marking → ℕ → Marking → ℕ → Type 0
Moved N t m spare m' spare' = (m' ≡ fired N m t) × (spare' ≡ (spare + 1) - yields_of N t)

-- what is left on a board on which the order was fired
abbrev pub MovedBy : NetMeaning → List ℕ → Marking → ℕ → Marking → ℕ → Type 0
MovedBy N order m spare m' spare' = (m' ≡ after N m order) × (spare' + order_yields N order ≡ spare + length order)

-- whether all that a tally takes and yields was moved in one go, and what that leaves
abbrev pub MovedAtOnce : NetMeaning → Tally → ℕ → Bool → Marking → ℕ → Marking → ℕ → Type 0
MovedAtOnce N x steps b m spare m' spare' =
    MoveAllSays (spent N x) (gained N x) steps (yields_asked N x) m spare b m' spare'
