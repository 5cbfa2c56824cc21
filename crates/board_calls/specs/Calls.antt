-- What a call answers and leaves, as the board's own calls do.
use Rattle.std.specs.Prelude.{◌≡◌, ℕ, List, ◌++◌, Ok, Err, codes, decimal, Result}
use Rattle.refusals.specs.declared.Refusal.{Refusal}
use Rattle.refusals.specs.Refusals.{number_of, detail_of}
use Rattle.boards.specs.Boards.{Unchanged, Taken, Put, TakeRefused, PutRefused}
use Rattle.board_calls.specs.declared.Call.{Call}
use Rattle.board_calls.specs.declared.Call.TheVariants.{Count, Spare, Take, Put as PutCall}
use Rattle.board_calls.specs.declared.Answer.{Answer}
use Rattle.board_calls.specs.declared.Answer.TheVariants.{Number, Accepted, Refused}

-- an answer that is no number: what holds where it was accepted, and where it was refused
abbrev pub AcceptedOr : Answer → Type 0 → (Refusal → Type 0) → Type 0
AcceptedOr (Number n) accepted refused = ⊥
AcceptedOr Accepted accepted refused = accepted
AcceptedOr (Refused e) accepted refused = refused e

-- what a call answers, from the counts and spare before it to those after it
abbrev pub CallSays : Call → (ℕ → ℕ) → ℕ → Answer → (ℕ → ℕ) → ℕ → Type 0
CallSays (Count place) counts spare answer counts' spare' =
    (answer ≡ Number (counts place)) × Unchanged counts spare counts' spare'
CallSays Spare counts spare answer counts' spare' =
    (answer ≡ Number spare) × Unchanged counts spare counts' spare'
CallSays (Take place) counts spare answer counts' spare' =
    AcceptedOr answer (Taken place counts spare counts' spare') (λ e. TakeRefused place counts e
    × Unchanged counts spare counts' spare')
CallSays (PutCall place n) counts spare answer counts' spare' =
    AcceptedOr answer (Put place n counts spare counts' spare') (λ e. PutRefused place n spare e
    × Unchanged counts spare counts' spare')

-- the answer of a take, a put or a load
abbrev pub call_answer : {X : Type 0} → Result X Refusal → Answer
call_answer (Ok x) = Accepted
call_answer (Err e) = Refused e

-- what is printed of an answer: its number, or whether the call was accepted, and if not the refusal in two numbers
abbrev pub shown_answer : Answer → List ℕ
shown_answer (Number n) = decimal n
shown_answer Accepted = codes "ok"
shown_answer (Refused e) = codes "no " ++ (decimal (number_of e) ++ (codes " " ++ decimal (detail_of e)))
