-- A resume on a new sitting with a chained net and a count board.
use Rattle.std.specs.Prelude.{◌≡◌, ℕ, ◌+◌, Bool, not, ◌&&◌, List, length, Option, Result, ◌==◌}
use Rattle.std.specs.Prelude.{nat_le}
use Rattle.std.specs.Option.{option_or}
use Rattle.refusals.specs.Answered.{answered}
use Rattle.refusals.specs.declared.Refusal.{Refusal}
use Rattle.refusals.specs.declared.Refusal.TheVariants.{BoardRowUnfit}
use Rattle.theory.specs.Rows.{at}
use Rattle.theory.specs.Sums.{sum_to}
use Rattle.formats.specs.Checks.{fault}
use Rattle.formats.specs.Chained.{chained_refusal, chained_net}
use Rattle.boards.specs.Boards.{board_limit}
use Rattle.answers.specs.States.{Target, new_on}
use Rattle.answers.specs.Answers.{unless, written, resume_refusal, the_order}

-- the row has 64 counts, which keep the law of boards with the spare
abbrev pub board_fits : List ℕ → ℕ → Bool
board_fits counts spare = (length counts == 64) && nat_le (sum_to (at counts) 64 + spare) board_limit

-- why there is no such sitting, if there is none: the net's file first, then the board's row
abbrev pub sitting_refusal : List ℕ → List ℕ → ℕ → Option Refusal
sitting_refusal file counts spare = option_or (chained_refusal file)
    (fault (not (board_fits counts spare)) BoardRowUnfit)

-- why the tally is refused, if it is: the sitting, then as the resume of it
abbrev pub new_refusal : List ℕ → List ℕ → ℕ → List ℕ → Target → ℕ → Option Refusal
new_refusal file counts spare tally target memory =
    option_or (sitting_refusal file counts spare)
    (resume_refusal (chained_net file) (new_on (at counts) spare) tally target memory)

-- the order that is fired and written
abbrev pub new_order : List ℕ → List ℕ → ℕ → List ℕ → List ℕ
new_order file counts spare tally = the_order (chained_net file) (new_on (at counts) spare) tally

-- what is said of the resume, and the memory after it
pub record NewResumed (file counts : List ℕ) (spare : ℕ) (tally : List ℕ) (target : Target)
    (memory : List ℕ) (r : Result ℕ Refusal) (memory' : List ℕ) : Type 0 where
  pub answer : r ≡ answered (new_refusal file counts spare tally target (length memory))
      (length (new_order file counts spare tally))
  pub order : memory' ≡ unless (new_refusal file counts spare tally target (length memory)) memory
      (written (new_order file counts spare tally) memory)
