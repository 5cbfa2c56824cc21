-- The promise leaves no other answer: whatever has its clauses is what the definitions give.
use Rattle.std.specs.Prelude.{◌≡◌, ℕ, ◌⊎◌, ◌↔◌, List, Some, None, Option}
use Rattle.refusals.specs.declared.Refusal.{Refusal}
use Rattle.theory.specs.Nets.{NetMeaning, NetLaw}
use Rattle.theory.specs.Rows.{at}
use Rattle.theory.specs.Orders.{Earlier}
use Rattle.answers.specs.declared.Finding.{Finding}
use Rattle.answers.specs.States.{State, Target}
use Rattle.answers.specs.Calls.{Call, Answer, answers_to}
use Rattle.answers.specs.Answers.{fire_refusal, resume_refusal, the_order}
use Rattle.answers.specs.Findings.{findings, survey_refusal}
use Rattle.answers.specs.Reasons.{FireFits, WhyFire, ResumeFits, WhyResume, Such, SurveyFits, WhySurvey, AllFound}
use Rattle.answers.specs.Promise.{Leads, SameState, Transcript}

-- a refusal, or none, that comes exactly when these say
pub record ComesExactly (Fits : Type 0) (Why : Refusal → Type 0) (refusal : Option Refusal) : Type 0 where
  pub none : (refusal ≡ None) ↔ Fits
  pub some : (e : Refusal) → (refusal ≡ Some e) ↔ Why e

-- what each call answers and leaves is the one thing that has the clauses of the promise
pub record PinnedIn (N : NetMeaning) (s : State) : Type 0 where
  pub fire_refused : (t : ℕ) (r : Option Refusal) → ComesExactly (FireFits N s t) (WhyFire N s t) r →
      r ≡ fire_refusal N s t
  pub resume_refused : (tally : List ℕ) (target : Target) (memory : ℕ) (r : Option Refusal) →
      ComesExactly (ResumeFits N s tally target memory × ((order : List ℕ) × Such N s tally target order))
      (WhyResume N s tally target memory) r → r ≡ resume_refusal N s tally target memory
  pub survey_refused : (tally : List ℕ) (target : Target) (memory : ℕ) (r : Option Refusal) →
      ComesExactly (SurveyFits N s tally target memory) (WhySurvey N s tally target memory) r →
      r ≡ survey_refusal N s tally target memory
  pub order_written : (tally : List ℕ) (target : Target) (memory : ℕ) →
      resume_refusal N s tally target memory ≡ None →
      (order : List ℕ) → Such N s tally target order →
      ((other : List ℕ) → Such N s tally target other → (order ≡ other) ⊎ Earlier order other) →
      order ≡ the_order N s tally
  pub findings_listed : (tally : List ℕ) (target : Target) (memory : ℕ) →
      survey_refusal N s tally target memory ≡ None →
      (list : List Finding) → AllFound N s.counts (at tally) target list →
      list ≡ findings N s.counts (at tally) target
  pub transcript_said : (calls : List Call) (said : List Answer) → Transcript N s calls said →
      said ≡ answers_to N s calls
  pub state_left : (order : List ℕ) (a b : State) → Leads N order s a → Leads N order s b → SameState a b

abbrev pub Pinned : Type 0
Pinned = (N : NetMeaning) → NetLaw N → (s : State) → PinnedIn N s
