-- What firing a tally on a board answers and leaves, as a resume does but for the done row.
use Rattle.std.specs.Prelude.{◌≡◌, ℕ, List, length, Result}
use Rattle.refusals.specs.declared.Refusal.{Refusal}
use Rattle.theory.specs.Nets.{NetMeaning}
use Rattle.theory.specs.Firing.{Marking}
use Rattle.answers.specs.States.{State, Target}
use Rattle.answers.specs.Answers.{unless, resume_refusal, resume_answer, after_resume, order_memory}

-- from what the sitting holds and the lent memory, to the board's counts and spare and the memory afterwards
pub record Fired (N : NetMeaning) (s : State) (tally : List ℕ) (target : Target) (memory : List ℕ)
    (r : Result ℕ Refusal) (counts' : Marking) (spare' : ℕ) (memory' : List ℕ) : Type 0 where
  pub answer : r ≡ resume_answer N s tally target (length memory)
  pub counts : counts' ≡ unless (resume_refusal N s tally target (length memory)) s.counts
      (after_resume N s tally).counts
  pub spare : spare' ≡ unless (resume_refusal N s tally target (length memory)) s.spare (after_resume N s tally).spare
  pub written : memory' ≡ order_memory N s tally target memory
