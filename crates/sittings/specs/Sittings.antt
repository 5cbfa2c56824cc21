-- What a sitting holds, as the answers are defined over it.
use Rattle.std.specs.Prelude.{ℕ, List}
use Rattle.answers.specs.States.{State, state_of}
use Rattle.boards.specs.declared.board.Board as boards
use Rattle.nets.specs.declared.net.Net as nets
use Rattle.sittings.specs.declared.sitting.Sitting.{Sitting}

-- its board's counts and spare, by what its kind of board shows, and its done row
abbrev pub sitting_state : {N B : Type 0} {net : nets.Ghosts N} (board : boards.Ghosts B) →
    Sitting N B net board → State
sitting_state board sitting = state_of (board.counts sitting.board) (board.spare sitting.board) sitting.done

-- its net
abbrev pub sitting_net : {N B : Type 0} {net : nets.Ghosts N} {board : boards.Ghosts B} → Sitting N B net board → N
sitting_net sitting = sitting.net

-- its board
abbrev pub sitting_board : {N B : Type 0} {net : nets.Ghosts N} {board : boards.Ghosts B} →
    Sitting N B net board → B
sitting_board sitting = sitting.board

-- how often each step was done in it: the 128 numbers of its done row
abbrev pub done_row : {N B : Type 0} {net : nets.Ghosts N} {board : boards.Ghosts B} →
    Sitting N B net board → List ℕ
done_row sitting = sitting.done
