-- What a survey lists, and each finding's number.
use Rattle.std.specs.Prelude.{ℕ, ◌+◌, Bool, if◌then◌else◌, not, List, [], ◌∷◌, ◌++◌, length}
use Rattle.std.specs.Prelude.{ℤ, pos, ◌-ℤ◌, Some, None, Option, Result, nat_lt}
use Rattle.refusals.specs.declared.Refusal.{Refusal}
use Rattle.refusals.specs.declared.Refusal.TheVariants.{RowsUnfit, DoneLimit, ListFull}
use Rattle.theory.specs.Nets.{NetMeaning}
use Rattle.theory.specs.Rows.{at, found_below}
use Rattle.theory.specs.Firing.{Marking}
use Rattle.theory.specs.Tallies.{Tally, steps_asked, final_number}
use Rattle.theory.specs.Tests.{is_short, is_cut_off}
use Rattle.answers.specs.declared.Cause.{Cause}
use Rattle.answers.specs.declared.Cause.TheVariants as cause
use Rattle.answers.specs.declared.Finding.{Finding}
use Rattle.answers.specs.States.{State, Target, done_total, done_limit, findings_needed}
use Rattle.refusals.specs.Answered.{answered}
use Rattle.answers.specs.Answers.{first_wrong, unless, written, rows_fit, is_missed}

-- the blocks that a cause tells of
abbrev pub cause_number : Cause → ℤ
cause_number (cause.Short n) = n
cause_number cause.CutOff = pos 0
cause_number (cause.Missed n) = n

-- a short place is listed with what the marking equation gives there
abbrev pub short_finding : NetMeaning → Marking → Tally → ℕ → Finding
short_finding N m x p = record { place = p; cause = cause.Short (final_number N m x p) }

-- a place that is cut off is listed with no number
abbrev pub cut_off_finding : ℕ → Finding
cut_off_finding p = record { place = p; cause = cause.CutOff }

-- a missed place is listed with how many blocks it would have too many, or too few
abbrev pub missed_finding : NetMeaning → Marking → Tally → Target → ℕ → Finding
missed_finding N m x target p =
    record { place = p; cause = cause.Missed (final_number N m x p -ℤ pos (at target.numbers p)) }

-- the finding at a place that passes the test, else none
abbrev pub finding_at : (ℕ → Bool) → (ℕ → Finding) → ℕ → Option Finding
finding_at passes finding p = if passes p then Some (finding p) else None

-- the list of a survey, one cause after the other; a place may have several and is then listed with each
abbrev pub findings : NetMeaning → Marking → Tally → Target → List Finding
findings N m x target =
    found_below (finding_at (is_short N m x) (short_finding N m x)) N.places
    ++ (found_below (finding_at (is_cut_off N m x) cut_off_finding) N.places
    ++ found_below (finding_at (is_missed N m x target) (missed_finding N m x target)) N.places)

-- what a survey looks at, first to last, for memory of so many findings
abbrev pub survey_checks : NetMeaning → State → List ℕ → Target → ℕ → List (Bool × Refusal)
survey_checks N s tally target memory =
    (not (rows_fit N tally target), RowsUnfit)
    ∷ (nat_lt done_limit (done_total s + steps_asked N (at tally)), DoneLimit)
    ∷ (nat_lt memory findings_needed, ListFull)
    ∷ []

-- why a survey is refused, if it is
abbrev pub survey_refusal : NetMeaning → State → List ℕ → Target → ℕ → Option Refusal
survey_refusal N s tally target memory = first_wrong (survey_checks N s tally target memory)

-- an accepted survey says how long its list is
abbrev pub survey_answer : NetMeaning → State → List ℕ → Target → ℕ → Result ℕ Refusal
survey_answer N s tally target memory =
    answered (survey_refusal N s tally target memory) (length (findings N s.counts (at tally) target))

-- what a survey leaves in the lent memory: its list, and behind it what was lent
abbrev pub findings_memory : NetMeaning → State → List ℕ → Target → List Finding → List Finding
findings_memory N s tally target memory =
    unless (survey_refusal N s tally target (length memory)) memory
    (written (findings N s.counts (at tally) target) memory)
