-- The promise: what fire, resume and survey answer and leave, in any state and after every list of calls.
use Rattle.std.specs.Prelude.{◌≡◌, ℕ, ◌+◌, ◌<◌, ◌≤◌, ◌⊎◌, ◌↔◌, List, [], ◌∷◌}
use Rattle.std.specs.Prelude.{◌++◌, length, take, drop, Some, None, Ok, Err, Option, Result}
use Rattle.refusals.specs.declared.Refusal.{Refusal}
use Rattle.theory.specs.Sums.{sum_to}
use Rattle.theory.specs.Nets.{NetMeaning, NetLaw}
use Rattle.theory.specs.Rows.{at}
use Rattle.theory.specs.Firing.{Marking, CanFire, after, times}
use Rattle.theory.specs.Tallies.{steps_asked, Realizes}
use Rattle.theory.specs.Orders.{Earlier}
use Rattle.theory.specs.Laws.{AgreeBelow}
use Rattle.answers.specs.declared.Finding.{Finding}
use Rattle.answers.specs.States.{State, New, new_on, Target, exact, done_total, done_limit, yields_asked}
use Rattle.answers.specs.Answers.{fire_refusal, fire_answer, size_refusal, resume_refusal, the_order, resume_answer}
use Rattle.answers.specs.Answers.{order_memory}
use Rattle.answers.specs.Findings.{findings, survey_refusal, survey_answer, findings_memory}
use Rattle.answers.specs.Calls.{Call, Answer, refusal_of, fired_by, after_call, answer_to, after_calls, answers_to}
use Rattle.answers.specs.Calls.{history, accepted_times, fires, order_yields}
use Rattle.answers.specs.Calls.Call.{fire, resume, survey}
use Rattle.answers.specs.Calls.Answer.{refused, fired_once, order_written, findings_listed}
use Rattle.answers.specs.Reasons.{FireFits, WhyFire, ResumeFits, WhyResume, Such, SurveyFits, WhySurvey, AllFound}

-- the same counts, spare and done row
pub record SameState (a b : State) : Type 0 where
  pub counts : (p : ℕ) → a.counts p ≡ b.counts p
  pub spare : a.spare ≡ b.spare
  pub done : (t : ℕ) → a.done t ≡ b.done t

-- firing the order leads from the one state to the other: each step takes a block to spare and its yields from there
pub record Leads (N : NetMeaning) (order : List ℕ) (before next : State) : Type 0 where
  pub can_fire : CanFire N before.counts order
  pub counts : (p : ℕ) → next.counts p ≡ after N before.counts order p
  pub spare : next.spare + order_yields N order ≡ before.spare + length order
  pub done : (t : ℕ) → next.done t ≡ before.done t + times order t

-- every one of the calls is accepted, in turn
abbrev pub AllAccepted : NetMeaning → State → List Call → Type 0
AllAccepted N s [] = Unit {0}
AllAccepted N s (c ∷ cs) = (refusal_of N s c ≡ None) × AllAccepted N (after_call N s c) cs

-- an accepted resume is as a fire of each step of its order
pub record AsFires (N : NetMeaning) (s : State) (tally : List ℕ) (target : Target) (memory : ℕ) : Type 0 where
  pub none_refused : AllAccepted N s (fires (the_order N s tally))
  pub same_state : SameState (after_calls N s (fires (the_order N s tally)))
      (after_call N s (resume tally target memory))

-- WHAT HOLDS IN ANY STATE

-- whatever a sitting holds: when each call is accepted, why it is refused, and what it finds
pub record InAnyState (N : NetMeaning) (s : State) : Type 0 where
  -- a fire is accepted where nothing of four things hinders it, and else refused for the first of them that does
  pub fires_exactly : (t : ℕ) → (fire_refusal N s t ≡ None) ↔ FireFits N s t
  pub fire_refused_for : (t : ℕ) (e : Refusal) → (fire_refusal N s t ≡ Some e) ↔ WhyFire N s t e
  -- where the sizes are right, a tally is accepted just if there is an order of it that ends as the target wants
  pub accepts_exactly : (tally : List ℕ) (target : Target) (memory : ℕ) →
      size_refusal N s tally target memory ≡ None →
      (resume_refusal N s tally target memory ≡ None) ↔ ((order : List ℕ) × Such N s tally target order)
  -- with the sizes written out
  pub resumes_exactly : (tally : List ℕ) (target : Target) (memory : ℕ) →
      (resume_refusal N s tally target memory ≡ None)
      ↔ (ResumeFits N s tally target memory × ((order : List ℕ) × Such N s tally target order))
  pub resume_refused_for : (tally : List ℕ) (target : Target) (memory : ℕ) (e : Refusal) →
      (resume_refusal N s tally target memory ≡ Some e) ↔ WhyResume N s tally target memory e
  -- what an accepted resume writes is the lexicographically least of these orders
  pub writes_the_first : (tally : List ℕ) (target : Target) (memory : ℕ) →
      resume_refusal N s tally target memory ≡ None →
      Such N s tally target (the_order N s tally)
      × ((other : List ℕ) → Such N s tally target other →
      (the_order N s tally ≡ other) ⊎ Earlier (the_order N s tally) other)
  -- how long the order is, and that fires of its steps would do the same
  pub order_long : (tally : List ℕ) (target : Target) (memory : ℕ) →
      resume_refusal N s tally target memory ≡ None →
      length (the_order N s tally) ≡ steps_asked N (at tally)
  pub resumes_as_fires : (tally : List ℕ) (target : Target) (memory : ℕ) →
      resume_refusal N s tally target memory ≡ None →
      AsFires N s tally target memory
  -- a survey is accepted where its sizes are right, and then leaves nothing out and makes nothing up
  pub surveys_exactly : (tally : List ℕ) (target : Target) (memory : ℕ) →
      (survey_refusal N s tally target memory ≡ None) ↔ SurveyFits N s tally target memory
  pub survey_refused_for : (tally : List ℕ) (target : Target) (memory : ℕ) (e : Refusal) →
      (survey_refusal N s tally target memory ≡ Some e) ↔ WhySurvey N s tally target memory e
  pub finds_all : (tally : List ℕ) (target : Target) (memory : ℕ) →
      survey_refusal N s tally target memory ≡ None →
      AllFound N s.counts (at tally) target (findings N s.counts (at tally) target)

-- WHAT HOLDS AFTER EVERY LIST OF CALLS

-- a transcript of the calls: one answer to each, in turn what is said to it in the state that the calls before it left
pub record Transcript (N : NetMeaning) (start : State) (calls : List Call) (said : List Answer) : Type 0 where
  pub one_each : length said ≡ length calls
  pub in_turn : (earlier : List Call) (c : Call) (later : List Call) → calls ≡ earlier ++ (c ∷ later) →
      take 1 (drop (length earlier) said) ≡ answer_to N (after_calls N start earlier) c ∷ []

-- the row has n numbers, those of f
abbrev pub RowOf : List ℕ → ℕ → (ℕ → ℕ) → Type 0
RowOf row n f = (length row ≡ n) × ((i : ℕ) → i < n → at row i ≡ f i)

-- what a colleague needs to take over: a sitting that has done nothing, on any board with the blocks of the old start,
-- and, out of the old sitting, its counters (to be done as one tally) and its marking (to be reached exactly); the
-- colleague's memory and spare are large enough for that tally
pub record HandOver (N : NetMeaning) (start now other : State) (tally numbers : List ℕ) (memory : ℕ) : Type 0 where
  pub new : New other
  pub same_start : AgreeBelow N.places other.counts start.counts
  pub the_done_row : RowOf tally N.steps now.done
  pub the_marking : RowOf numbers N.places now.counts
  pub memory_holds : steps_asked N (at tally) ≤ memory
  pub spare_holds : yields_asked N (at tally) ≤ other.spare

-- the take-over works: one resume brings the new sitting to where the old one is, counters too; if one of the boards
-- had more spare at the start, it has as much more at the end
pub record ReplayedOn (N : NetMeaning) (start now other : State) (tally numbers : List ℕ)
    (memory : ℕ) : Type 0 where
  pub accepted : resume_refusal N other tally (exact numbers) memory ≡ None
  pub counts : AgreeBelow N.places (after_call N other (resume tally (exact numbers) memory)).counts now.counts
  pub spare : (after_call N other (resume tally (exact numbers) memory)).spare + start.spare ≡ now.spare + other.spare
  pub done : (t : ℕ) → (after_call N other (resume tally (exact numbers) memory)).done t ≡ now.done t

-- what is true of a sitting at any time, however it was used since it was new, be it with calls that it refused
pub record AfterCalls (N : NetMeaning) (start : State) (calls : List Call) : Type 0 where
  -- what was said to them is their transcript
  pub transcript : Transcript N start calls (answers_to N start calls)
  -- the counters stand for accepted calls alone: a fire adds 1 to its step's, a resume adds its tally
  pub counts_accepted_work : (t : ℕ) → (after_calls N start calls).done t ≡ accepted_times N start calls t
  -- the steps fired so far, in their order, lead from the start to where the sitting is; their counts are the done row
  pub history_leads : Leads N (history N start calls) start (after_calls N start calls)
  pub history_counts : Realizes N start.counts (after_calls N start calls).done (history N start calls)
  -- the done total stays within its limit, and only steps of the net are done
  pub within_the_limit : done_total (after_calls N start calls) ≤ done_limit
  pub only_its_steps : (t : ℕ) → N.steps ≤ t → (after_calls N start calls).done t ≡ 0
  -- the board keeps its size: blocks on it and blocks that still fit, together; places past the net's stay as they are
  pub blocks_stay : sum_to (after_calls N start calls).counts 64 + (after_calls N start calls).spare
      ≡ sum_to start.counts 64 + start.spare
  pub outside_stays : (p : ℕ) → N.places ≤ p → (after_calls N start calls).counts p ≡ start.counts p
  -- whoever takes over from the counters alone gets as far
  pub replays : (other : State) (tally numbers : List ℕ) (memory : ℕ) →
      HandOver N start (after_calls N start calls) other tally numbers memory →
      ReplayedOn N start (after_calls N start calls) other tally numbers memory

-- WHAT A CALL TELLS AND LEAVES

-- the call answers with its refusal if it is refused, else with this
pub record Says {A : Type 0} (refusal : Option Refusal) (answer : A) (result : Result A Refusal) : Type 0 where
  pub accepted : refusal ≡ None → result ≡ Ok answer
  pub refused : (e : Refusal) → refusal ≡ Some e → result ≡ Err e

-- lent memory has these at its front after an accepted call and behind them what it had, and all that it had after a
-- refused one
pub record Writes {A : Type 0} (refusal : Option Refusal) (items before next : List A) : Type 0 where
  pub as_long : length next ≡ length before
  pub front : refusal ≡ None → take (length items) next ≡ items
  pub rest : refusal ≡ None → drop (length items) next ≡ drop (length items) before
  pub refused : (e : Refusal) → refusal ≡ Some e → next ≡ before

-- what a call tells its caller, writes into the lent memory, fires and leaves, given its refusal, order and findings
pub record ToldAndLeft (N : NetMeaning) (s : State) : Type 0 where
  -- the answer of each call: its refusal, or else nothing, the length of its order, or of its list of findings
  pub fire_says : (t : ℕ) → Says (fire_refusal N s t) tt (fire_answer N s t)
  pub resume_says : (tally : List ℕ) (target : Target) (memory : ℕ) →
      Says (resume_refusal N s tally target memory) (length (the_order N s tally))
      (resume_answer N s tally target memory)
  pub survey_says : (tally : List ℕ) (target : Target) (memory : ℕ) →
      Says (survey_refusal N s tally target memory) (length (findings N s.counts (at tally) target))
      (survey_answer N s tally target memory)
  -- the memory that was lent to it
  pub resume_writes : (tally : List ℕ) (target : Target) (memory : List ℕ) →
      Writes (resume_refusal N s tally target (length memory)) (the_order N s tally) memory
      (order_memory N s tally target memory)
  pub survey_writes : (tally : List ℕ) (target : Target) (memory : List Finding) →
      Writes (survey_refusal N s tally target (length memory)) (findings N s.counts (at tally) target) memory
      (findings_memory N s tally target memory)
  -- it leaves what the steps that it fired give: its step, its order, or none
  pub leaves_what_it_fired : (c : Call) → Leads N (fired_by N s c) s (after_call N s c)
  pub fire_fires : (t : ℕ) → fire_refusal N s t ≡ None → fired_by N s (fire t) ≡ t ∷ []
  pub resume_fires : (tally : List ℕ) (target : Target) (memory : ℕ) →
      resume_refusal N s tally target memory ≡ None →
      fired_by N s (resume tally target memory) ≡ the_order N s tally
  pub survey_fires_none : (tally : List ℕ) (target : Target) (memory : ℕ) →
      fired_by N s (survey tally target memory) ≡ []
  pub refused_fires_none : (c : Call) (e : Refusal) → refusal_of N s c ≡ Some e → fired_by N s c ≡ []
  -- what the transcript has of it
  pub fire_told : (t : ℕ) → fire_refusal N s t ≡ None → answer_to N s (fire t) ≡ fired_once
  pub resume_told : (tally : List ℕ) (target : Target) (memory : ℕ) →
      resume_refusal N s tally target memory ≡ None →
      answer_to N s (resume tally target memory) ≡ order_written (the_order N s tally)
  pub survey_told : (tally : List ℕ) (target : Target) (memory : ℕ) →
      survey_refusal N s tally target memory ≡ None →
      answer_to N s (survey tally target memory) ≡ findings_listed (findings N s.counts (at tally) target)
  pub refusal_told : (c : Call) (e : Refusal) → refusal_of N s c ≡ Some e → answer_to N s c ≡ refused e

-- WHAT A NEW SITTING HOLDS

-- a new sitting on a board with these counts and this spare: it holds these, and it has done no step
pub record NewOn (counts : Marking) (spare : ℕ) (s : State) : Type 0 where
  pub same_counts : (p : ℕ) → s.counts p ≡ counts p
  pub same_spare : s.spare ≡ spare
  pub nothing_done : (t : ℕ) → s.done t ≡ 0

-- THE PROMISE

-- for every lawful net: what holds in every sitting, and after every list of calls on a new one; then, for every
-- sitting, what a call tells and leaves, and for every board what a new sitting holds
pub record Promise : Type 0 where
  pub in_any_state : (N : NetMeaning) → NetLaw N → (s : State) → InAnyState N s
  pub after_any_calls : (N : NetMeaning) → NetLaw N → (start : State) → New start →
      (calls : List Call) → AfterCalls N start calls
  pub told_and_left : (N : NetMeaning) → NetLaw N → (s : State) → ToldAndLeft N s
  pub new_sittings : (counts : Marking) (spare : ℕ) → NewOn counts spare (new_on counts spare)
