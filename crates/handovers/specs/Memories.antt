-- What order memory and findings memory hold after each call of a list.
use Rattle.std.specs.Prelude.{◌≡◌, ℕ, List, [], ◌∷◌, ◌++◌}
use Rattle.theory.specs.Nets.{NetMeaning}
use Rattle.answers.specs.declared.Finding.{Finding}
use Rattle.answers.specs.States.{State}
use Rattle.answers.specs.Answers.{written}
use Rattle.answers.specs.Calls.{Call, Answer, answer_to, after_call, after_calls}
use Rattle.answers.specs.Calls.Call.{fire, resume, survey}
use Rattle.answers.specs.Calls.Answer.{order_written, findings_listed}
use Rattle.handovers.specs.Made.{order_left, findings_left, orders_left, all_findings_left}

-- each call is lent memory of these lengths
abbrev pub Sized : ℕ → ℕ → Call → Type 0
Sized order findings (fire t) = Unit {0}
Sized order findings (resume tally target size) = size ≡ order
Sized order findings (survey tally target size) = size ≡ findings

abbrev pub AllSized : ℕ → ℕ → List Call → Type 0
AllSized order findings [] = Unit {0}
AllSized order findings (c ∷ cs) = Sized order findings c × AllSized order findings cs

-- the answer has no order, or no findings
abbrev pub NoOrder : Answer → Type 0
NoOrder answer = (order : List ℕ) → answer ≡ order_written order → ⊥

abbrev pub NoFindings : Answer → Type 0
NoFindings answer = (list : List Finding) → answer ≡ findings_listed list → ⊥

-- every answer to the calls, in turn, is such
abbrev pub EachSays : (Answer → Type 0) → NetMeaning → State → List Call → Type 0
EachSays P N s [] = Unit {0}
EachSays P N s (c ∷ cs) = P (answer_to N s c) × EachSays P N (after_call N s c) cs

-- what the memories hold, call by call
pub record Memories (N : NetMeaning) (start : State) (calls : List Call) (order : List ℕ)
    (findings : List Finding) : Type 0 where
  -- each call writes over what those before it left, and those behind it over what it left
  pub orders_in_turn : (earlier : List Call) (c : Call) (later : List Call) → calls ≡ earlier ++ (c ∷ later) →
      orders_left N start calls order
      ≡ orders_left N (after_call N (after_calls N start earlier) c) later
      (order_left N (after_calls N start earlier) c (orders_left N start earlier order))
  pub findings_in_turn : (earlier : List Call) (c : Call) (later : List Call) → calls ≡ earlier ++ (c ∷ later) →
      all_findings_left N start calls findings
      ≡ all_findings_left N (after_call N (after_calls N start earlier) c) later
      (findings_left N (after_calls N start earlier) c (all_findings_left N start earlier findings))
  -- the last order that was said stands at the front, and behind it what stood there before that call
  pub last_order : (earlier : List Call) (c : Call) (later : List Call) → calls ≡ earlier ++ (c ∷ later) →
      (said : List ℕ) → answer_to N (after_calls N start earlier) c ≡ order_written said →
      EachSays NoOrder N (after_call N (after_calls N start earlier) c) later →
      orders_left N start calls order ≡ written said (orders_left N start earlier order)
  pub last_findings : (earlier : List Call) (c : Call) (later : List Call) → calls ≡ earlier ++ (c ∷ later) →
      (said : List Finding) → answer_to N (after_calls N start earlier) c ≡ findings_listed said →
      EachSays NoFindings N (after_call N (after_calls N start earlier) c) later →
      all_findings_left N start calls findings ≡ written said (all_findings_left N start earlier findings)
  -- and where none was said, the memory is as it was
  pub no_order : EachSays NoOrder N start calls → orders_left N start calls order ≡ order
  pub no_findings : EachSays NoFindings N start calls → all_findings_left N start calls findings ≡ findings
