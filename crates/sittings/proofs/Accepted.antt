-- What holds of an accepted tally, as the row of the board's counts has them.
use Rattle.std.proofs.Common.{◌≡◌, ℕ, ◌+◌, ◌<◌, ◌≤◌, List, length, take, None, sym, ap, ◌∙◌, subst, inl, inr, arith}
use Rattle.std.proofs.lemmas.Bool.{cases_lt}
use Rattle.std.proofs.Math.Seq.{take-append_seam}
use mathlib.Core.Path.{fun_ext}
use Rattle.std.specs.Prelude.{drop}
use Rattle.theory.specs.Nets.{NetMeaning, NetLaw}
use Rattle.theory.specs.Rows.{at}
use Rattle.theory.specs.Firing.{Marking}
use Rattle.theory.specs.Tallies.{Realizes, Realizable}
use Rattle.theory.specs.Tests.{first_order}
use Rattle.theory.proofs.SumLaws.{le_sum_to}
use Rattle.boards.specs.Boards.{BoardLaw, board_limit}
use Rattle.answers.specs.States.{state_of, State, Target, yields_asked}
use Rattle.answers.specs.Answers.{written, resume_refusal, the_order}
use Rattle.answers.specs.Reasons.{ResumeFits}
use Rattle.answers.proofs.Resumes.{such_now, fits_now, long_now}

module _ (N : NetMeaning) (law : NetLaw N) (counts : Marking) (spare : ℕ) (bounded : BoardLaw counts spare) (outside : (p : ℕ) → 63 < p → counts p ≡ 0)
    (done tally : List ℕ) (target : Target) (memory : List ℕ) (none : resume_refusal N (state_of counts spare done) tally target (length memory) ≡ None)
    (row : List ℕ) (counted : (p : ℕ) → at row p ≡ counts p) where
  same : at row ≡ counts
  same = fun_ext counted

  abbrev pub s : State
  s = state_of counts spare done

  fits : ResumeFits N s tally target (length memory)
  fits = fits_now N law s tally target (length memory) none

  does : Realizes N counts (at tally) (the_order N s tally)
  does = (such_now N law s tally target (length memory) none).0

  pub can_be_done : Realizable N (at row) (at tally)
  can_be_done = subst (λ (m : Marking). Realizable N m (at tally)) (sym same) (the_order N s tally, does)

  pub counts_fit : (p : ℕ) → at row p + yields_asked N (at tally) ≤ board_limit
  counts_fit p = elim (cases_lt p 64) [
    | inl l ↦ omega (arith, counted p, le_sum_to counts 64 p l, bounded, fits.spare_holds)
    | inr k ↦ omega (arith, counted p, outside p (omega arith), bounded, fits.spare_holds)
  ]

  -- the order that was found from the row
  pub found_order : first_order N (at row) (at tally) ≡ the_order N s tally
  found_order = ap (λ (m : Marking). first_order N m (at tally)) same

  module _ (n : ℕ) (memory' : List ℕ) (long : n ≡ length (first_order N (at row) (at tally))) (writes : memory' ≡ written (first_order N (at row) (at tally)) memory) where
    pub found_long : n ≡ length (the_order N s tally)
    found_long = long ∙ ap length found_order

    pub found_written : memory' ≡ written (the_order N s tally) memory
    found_written = writes ∙ ap (λ (items : List ℕ). written items memory) found_order

    -- stands in front of the memory
    pub front_order : take n memory' ≡ the_order N s tally
    front_order =
        ap (λ (k : ℕ). take k memory') found_long
        ∙ ap (take (length (the_order N s tally))) found_written
        ∙ take-append_seam (the_order N s tally) (drop (length (the_order N s tally)) memory)

    pub front_does : Realizes N counts (at tally) (take n memory')
    front_does = subst (λ (order : List ℕ). Realizes N counts (at tally) order) (sym front_order) does

    pub front_few : length (take n memory') ≤ 65535
    front_few = omega (arith, ap length front_order, long_now N law s tally target (length memory) none, fits.within_limit)
