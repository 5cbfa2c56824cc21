-- Lists of calls on a sitting: what each answers, what it fires and what it leaves.
use Rattle.std.specs.Prelude.{ℕ, ◌+◌, List, [], ◌∷◌, ◌++◌, Some, None, Option}
use Rattle.refusals.specs.declared.Refusal.{Refusal}
use Rattle.theory.specs.Nets.{NetMeaning}
use Rattle.theory.specs.Rows.{at}
use Rattle.theory.specs.Firing.{one_at}
use Rattle.theory.specs.Tallies.{Tally}
use Rattle.answers.specs.declared.Finding.{Finding}
use Rattle.answers.specs.States.{State, Target, yields_of}
use Rattle.answers.specs.Answers.{unless, fire_refusal, after_fire, resume_refusal, the_order, after_resume}
use Rattle.answers.specs.Findings.{findings, survey_refusal}

-- a call: fire with its step; resume and survey with tally, target and how many entries the memory has
pub data Call : Type 0 where
  fire : ℕ → Call
  resume : List ℕ → Target → ℕ → Call
  survey : List ℕ → Target → ℕ → Call

-- why the call is refused, if it is
abbrev pub refusal_of : NetMeaning → State → Call → Option Refusal
refusal_of N s (fire t) = fire_refusal N s t
refusal_of N s (resume tally target memory) = resume_refusal N s tally target memory
refusal_of N s (survey tally target memory) = survey_refusal N s tally target memory

-- the order that the call fires if it is accepted
abbrev pub order_of : NetMeaning → State → Call → List ℕ
order_of N s (fire t) = t ∷ []
order_of N s (resume tally target memory) = the_order N s tally
order_of N s (survey tally target memory) = []

-- what it leaves if it is accepted
abbrev pub next_state : NetMeaning → State → Call → State
next_state N s (fire t) = after_fire N s t
next_state N s (resume tally target memory) = after_resume N s tally
next_state N s (survey tally target memory) = s

-- how often it asks for each step
abbrev pub asked_by : Call → Tally
asked_by (fire t) = one_at t
asked_by (resume tally target memory) = at tally
asked_by (survey tally target memory) = λ t. 0

-- the steps that the call fires: none if it is refused
abbrev pub fired_by : NetMeaning → State → Call → List ℕ
fired_by N s c = unless (refusal_of N s c) [] (order_of N s c)

-- what the call leaves: what was there if it is refused
abbrev pub after_call : NetMeaning → State → Call → State
after_call N s c = unless (refusal_of N s c) s (next_state N s c)

-- what is said to a call
pub data Answer : Type 0 where
  refused : Refusal → Answer
  fired_once : Answer
  order_written : List ℕ → Answer
  findings_listed : List Finding → Answer

-- what is said if it is accepted
abbrev pub accepted_answer : NetMeaning → State → Call → Answer
accepted_answer N s (fire t) = fired_once
accepted_answer N s (resume tally target memory) = order_written (the_order N s tally)
accepted_answer N s (survey tally target memory) = findings_listed (findings N s.counts (at tally) target)

-- the refusal if there is one, else the answer
abbrev pub said : Option Refusal → Answer → Answer
said None answer = answer
said (Some e) answer = refused e

-- what is said to the call
abbrev pub answer_to : NetMeaning → State → Call → Answer
answer_to N s c = said (refusal_of N s c) (accepted_answer N s c)

-- LISTS OF CALLS

-- what the calls leave, one after another
abbrev pub after_calls : NetMeaning → State → List Call → State
after_calls N s [] = s
after_calls N s (c ∷ cs) = after_calls N (after_call N s c) cs

-- the transcript: what is said to each call, in turn
abbrev pub answers_to : NetMeaning → State → List Call → List Answer
answers_to N s [] = []
answers_to N s (c ∷ cs) = answer_to N s c ∷ answers_to N (after_call N s c) cs

-- the steps that the calls fire, in turn
abbrev pub history : NetMeaning → State → List Call → List ℕ
history N s [] = []
history N s (c ∷ cs) = fired_by N s c ++ history N (after_call N s c) cs

-- how often the calls ask for each step, those that were refused left out
abbrev pub accepted_times : NetMeaning → State → List Call → Tally
accepted_times N s [] t = 0
accepted_times N s (c ∷ cs) t = unless (refusal_of N s c) 0 (asked_by c t) + accepted_times N (after_call N s c) cs t

-- a fire of each step of the order, in turn
abbrev pub fires : List ℕ → List Call
fires [] = []
fires (t ∷ ts) = fire t ∷ fires ts

-- all blocks that the steps of the order yield
abbrev pub order_yields : NetMeaning → List ℕ → ℕ
order_yields N [] = 0
order_yields N (t ∷ ts) = yields_of N t + order_yields N ts
