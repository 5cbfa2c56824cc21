-- Calls over lent rows: which they are, what is said to them, and what they leave in lent memory.
use Rattle.std.specs.Prelude.{◌≡◌, ℕ, List, [], ◌∷◌, length, map, Ok, Err, Result}
use Rattle.refusals.specs.declared.Refusal.{Refusal}
use Rattle.theory.specs.Nets.{NetMeaning}
use Rattle.answers.specs.declared.Finding.{Finding}
use Rattle.answers.specs.States.{State, target_of}
use Rattle.answers.specs.Answers.{written, order_memory}
use Rattle.answers.specs.Findings.{findings_memory}
use Rattle.answers.specs.Calls as answers
use Rattle.answers.specs.Calls.{answer_to, answers_to, after_call, after_calls}
use Rattle.answers.specs.Calls.Call.{fire, resume, survey}
use Rattle.answers.specs.Calls.Answer.{refused, fired_once, order_written, findings_listed}
use Rattle.handovers.specs.declared.sitting_calls.Call.{Call}
use Rattle.handovers.specs.declared.sitting_calls.Call.TheVariants.{Fire, Resume, Survey}
use Rattle.handovers.specs.declared.sitting_calls.Done.{Done}
use Rattle.handovers.specs.declared.sitting_calls.Done.TheVariants.{Fired, Order, Findings}

-- the call that a value stands for, by the lengths of order memory and findings memory
abbrev pub call_of : ℕ → ℕ → Call → answers.Call
call_of order findings (Fire step) = fire step
call_of order findings (Resume request) =
    resume request.tally.now (target_of request.target.numbers.now request.target.kind) order
call_of order findings (Survey request) =
    survey request.tally.now (target_of request.target.numbers.now request.target.kind) findings

-- what is told of an answer: what stands in memory by its length
abbrev pub told : answers.Answer → Result Done Refusal
told (refused refusal) = Err refusal
told fired_once = Ok Fired
told (order_written order) = Ok (Order (length order))
told (findings_listed findings) = Ok (Findings (length findings))

-- what order memory holds after a call: what a resume leaves there, and with any other call what it held
abbrev pub order_left : NetMeaning → State → answers.Call → List ℕ → List ℕ
order_left N s (fire t) memory = memory
order_left N s (resume tally target size) memory = order_memory N s tally target memory
order_left N s (survey tally target size) memory = memory

-- what findings memory holds after a call
abbrev pub findings_left : NetMeaning → State → answers.Call → List Finding → List Finding
findings_left N s (fire t) memory = memory
findings_left N s (resume tally target size) memory = memory
findings_left N s (survey tally target size) memory = findings_memory N s tally target memory

-- what they hold after a list of calls: each call writes over what those before it left
abbrev pub orders_left : NetMeaning → State → List answers.Call → List ℕ → List ℕ
orders_left N s [] memory = memory
orders_left N s (c ∷ cs) memory = orders_left N (after_call N s c) cs (order_left N s c memory)

abbrev pub all_findings_left : NetMeaning → State → List answers.Call → List Finding → List Finding
all_findings_left N s [] memory = memory
all_findings_left N s (c ∷ cs) memory = all_findings_left N (after_call N s c) cs (findings_left N s c memory)

-- a call was made: this is told of it, this is left, and this is in memory
pub record Made (N : NetMeaning) (s : State) (c : answers.Call) (order : List ℕ) (findings : List Finding)
    (answer : Result Done Refusal) (s' : State) (order' : List ℕ) (findings' : List Finding) : Type 0 where
  pub said : answer ≡ told (answer_to N s c)
  pub left : s' ≡ after_call N s c
  pub order_is : order' ≡ order_left N s c order
  pub findings_are : findings' ≡ findings_left N s c findings

-- the calls were made one after another: each answer is told in the row for what is said
pub record AllMade (N : NetMeaning) (s : State) (calls : List answers.Call) (order : List ℕ)
    (findings : List Finding) (row : List (Result Done Refusal))
    (s' : State) (order' : List ℕ) (findings' : List Finding) (row' : List (Result Done Refusal)) : Type 0 where
  pub transcript : row' ≡ written (map told (answers_to N s calls)) row
  pub left : s' ≡ after_calls N s calls
  pub order_is : order' ≡ orders_left N s calls order
  pub findings_are : findings' ≡ all_findings_left N s calls findings
