-- Whether there is a new sitting, and what is then said of the resume on it.
use Rattle.std.proofs.Common.{◌≡◌, ℕ, ◌+◌, not, List, length, None, Result, sym, ap, ◌∙◌}
use Rattle.std.specs.Prelude.{◌==◌, nat_le}
use Rattle.std.specs.Option.{option_or}
use Rattle.std.proofs.lemmas.Bool.{and_from, eq-eqb, le-leb}
use Rattle.refusals.specs.Answered.{answered}
use Rattle.refusals.specs.declared.Refusal.{Refusal}
use Rattle.refusals.specs.declared.Refusal.TheVariants.{BoardRowUnfit}
use Rattle.theory.specs.Rows.{at}
use Rattle.theory.specs.Sums.{sum_to}
use Rattle.formats.specs.Checks.{fault}
use Rattle.formats.specs.Chained.{chained_net}
use Rattle.boards.specs.Boards.{BoardLaw, board_limit}
use Rattle.answers.specs.States.{Target, new_on}
use Rattle.answers.specs.Answers.{unless, written, resume_refusal, resume_answer, order_memory}
use Rattle.c_library.specs.NewSittings.{board_fits, sitting_refusal, new_order, NewResumed}

-- a row that loads
pub row_fits : (counts : List ℕ) (spare : ℕ) → length counts ≡ 64 → BoardLaw (at counts) spare → fault (not (board_fits counts spare)) BoardRowUnfit ≡ None
row_fits counts spare long lawful =
    ap (λ b. fault (not b) BoardRowUnfit)
    (and_from (length counts == 64) (nat_le (sum_to (at counts) 64 + spare) board_limit) (eq-eqb (length counts) 64 long) (le-leb (sum_to (at counts) 64 + spare) board_limit lawful))

-- on a sitting that there is, the answer is that of its resume
pub resumed : (file counts : List ℕ) (spare : ℕ) (tally : List ℕ) (target : Target) (memory : List ℕ) (r : Result ℕ Refusal) (memory' : List ℕ) →
    sitting_refusal file counts spare ≡ None → r ≡ resume_answer (chained_net file) (new_on (at counts) spare) tally target (length memory) →
    memory' ≡ order_memory (chained_net file) (new_on (at counts) spare) tally target memory → NewResumed file counts spare tally target memory r memory'
resumed file counts spare tally target memory r memory' none answer order =
    let why = resume_refusal (chained_net file) (new_on (at counts) spare) tally target (length memory) in
    let first : why ≡ option_or (sitting_refusal file counts spare) why = sym (ap (λ o. option_or o why) none) in
    record {
      answer = answer ∙ ap (λ o. answered o (length (new_order file counts spare tally))) first;
      order = order ∙ ap (λ o. unless o memory (written (new_order file counts spare tally) memory)) first;
    }
