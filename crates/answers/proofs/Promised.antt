-- The promise.
use Rattle.std.proofs.Common.{◌≡◌, ℕ, ◌+◌, ◌-◌, ◌*◌, ◌<◌, ◌≤◌, List, [], length, drop, Some, None, Option, sym, refl, ap, ◌∙◌, subst, inl, inr, arith, length-append, length-drop}
use lib.Seq.{take-append_seam, drop-append_seam}
use Rattle.std.proofs.lemmas.Bool.{cases_lt}
use Rattle.refusals.specs.declared.Refusal.{Refusal}
use Rattle.theory.specs.Sums.{sum_to}
use Rattle.theory.specs.Nets.{NetMeaning, NetLaw}
use Rattle.theory.specs.Rows.{at}
use Rattle.theory.specs.Firing.{Marking, one_at, after}
use Rattle.theory.specs.Tallies.{steps_asked, Realizes}
use Rattle.theory.proofs.SumLaws.{sum_to_same, sum_to_none}
use Rattle.theory.proofs.Realized.{leaves, length_is}
use Rattle.theory.proofs.Decided.{some_none}
use Rattle.theory.proofs.Exchanging.{agreeing_exchanged}
use Rattle.answers.specs.States.{State, New, new_on, Target, exact, done_total, done_limit, yields_of, yields_asked}
use Rattle.refusals.specs.Answered.{answered}
use Rattle.answers.specs.Answers.{unless, written, fire_refusal, resume_refusal, the_order, after_resume}
use Rattle.answers.specs.Findings.{survey_refusal, findings}
use Rattle.answers.specs.Calls.{Call, refusal_of, order_of, fired_by, after_call, accepted_answer, said, answer_to, after_calls, history, order_yields}
use Rattle.answers.specs.Calls.Call.{fire, resume, survey}
use Rattle.answers.specs.Promise.{NewOn, Leads, Says, Writes, InAnyState, ToldAndLeft, HandOver, ReplayedOn, AfterCalls, Promise}
use Rattle.answers.proofs.Sizes.{fire_fits, fits_fire, why_fire, fire_why, size_fits, survey_fits, fits_survey, why_survey, survey_why}
use Rattle.answers.proofs.Resumes.{fits_now, such_now, later_now, long_now, accepts, why_resume, resume_why}
use Rattle.answers.proofs.Leading.{at_past, yields_is, call_leads}
use Rattle.answers.proofs.AsFires.{resume_as_fires}
use Rattle.answers.proofs.Surveys.{finds_all, few_findings}
use Rattle.answers.proofs.Transcripts.{transcript}
use Rattle.answers.proofs.Histories.{calls_lead, calls_done, Within, new_within, calls_within, sum_past, blocks_stay, outside_stays}

-- IN ANY STATE

any_state : (N : NetMeaning) → NetLaw N → (s : State) → InAnyState N s
any_state N law s = record {
  fires_exactly = λ t. (fire_fits N s t, fits_fire N s t);
  fire_refused_for = λ t e. (why_fire N s t e, fire_why N s t e);
  accepts_exactly = λ tally target memory size. (
    λ h. (the_order N s tally, such_now N law s tally target memory h),
    λ o. accepts N law s tally target memory (size_fits N s tally target memory size) o.0 o.1,
  );
  resumes_exactly = λ tally target memory. (
    λ h. (fits_now N law s tally target memory h, (the_order N s tally, such_now N law s tally target memory h)),
    λ h. accepts N law s tally target memory h.0 h.1.0 h.1.1,
  );
  resume_refused_for = λ tally target memory e. (
    why_resume N law s tally target memory e,
    λ w. resume_why N law s tally target memory w,
  );
  writes_the_first = λ tally target memory h. (such_now N law s tally target memory h, later_now N law s tally target memory h);
  order_long = long_now N law s;
  resumes_as_fires = resume_as_fires N law s;
  surveys_exactly = λ tally target memory. (survey_fits N s tally target memory, fits_survey N s tally target memory);
  survey_refused_for = λ tally target memory e. (why_survey N s tally target memory e, survey_why N s tally target memory e);
  finds_all = λ tally target memory h.
      finds_all N law s.counts (at tally) target (survey_fits N s tally target memory h).rows.known_kind;
}

-- WHAT A CALL TELLS AND LEAVES

-- what is fired and told once it is known whether the call is refused
fired_when : (N : NetMeaning) (s : State) (c : Call) (o : Option Refusal) → refusal_of N s c ≡ o → fired_by N s c ≡ unless o [] (order_of N s c)
fired_when N s c o h = ap (λ (q : Option Refusal). unless q [] (order_of N s c)) h

told_when : (N : NetMeaning) (s : State) (c : Call) (o : Option Refusal) → refusal_of N s c ≡ o → answer_to N s c ≡ said o (accepted_answer N s c)
told_when N s c o h = ap (λ (q : Option Refusal). said q (accepted_answer N s c)) h

survey_none : (N : NetMeaning) (s : State) (tally : List ℕ) (target : Target) (memory : ℕ) → fired_by N s (survey tally target memory) ≡ []
survey_none N s tally target memory = go (survey_refusal N s tally target memory)
  where
    go : (o : Option Refusal) → unless {A = List ℕ} o [] [] ≡ []
    go None = refl
    go (Some e) = refl

says : {A : Type 0} (o : Option Refusal) (a : A) → Says o a (answered o a)
says o a = record {
  accepted = λ h. ap (λ (q : Option Refusal). answered q a) h;
  refused = λ e h. ap (λ (q : Option Refusal). answered q a) h;
}

few : (a b : ℕ) → a ≤ 192 → 192 ≤ b → a ≤ b
few a b h k = omega arith

-- an order or list that fits is written from the front
writes : {A : Type 0} (o : Option Refusal) (items memory : List A) → (o ≡ None → length items ≤ length memory) →
    Writes o items memory (unless o memory (written items memory))
writes None items memory fits = record {
  as_long = simp (length-append, length-drop) (omega (arith, fits refl));
  front = λ _. take-append_seam items (drop (length items) memory);
  rest = λ _. drop-append_seam items (drop (length items) memory);
  refused = λ e h. absurd (some_none e (sym h));
}
writes (Some d) items memory fits = record {
  as_long = refl;
  front = λ h. absurd (some_none d h);
  rest = λ h. absurd (some_none d h);
  refused = λ e h. refl;
}

told_and_left : (N : NetMeaning) → NetLaw N → (s : State) → ToldAndLeft N s
told_and_left N law s = record {
  fire_says = λ t. says (fire_refusal N s t) tt;
  resume_says = λ tally target memory. says (resume_refusal N s tally target memory) (length (the_order N s tally));
  survey_says = λ tally target memory. says (survey_refusal N s tally target memory) (length (findings N s.counts (at tally) target));
  resume_writes = λ tally target memory.
      writes (resume_refusal N s tally target (length memory)) (the_order N s tally) memory
      (λ h. subst (λ (k : ℕ). k ≤ length memory) (sym (long_now N law s tally target (length memory) h))
      (fits_now N law s tally target (length memory) h).memory_holds);
  survey_writes = λ tally target memory.
      writes (survey_refusal N s tally target (length memory)) (findings N s.counts (at tally) target) memory
      (λ h. few (length (findings N s.counts (at tally) target)) (length memory) (few_findings N law s.counts (at tally) target)
      (survey_fits N s tally target (length memory) h).memory_holds);
  leaves_what_it_fired = call_leads N s law;
  fire_fires = λ t. fired_when N s (fire t) None;
  resume_fires = λ tally target memory. fired_when N s (resume tally target memory) None;
  survey_fires_none = survey_none N s;
  refused_fires_none = λ c e. fired_when N s c (Some e);
  fire_told = λ t. told_when N s (fire t) None;
  resume_told = λ tally target memory. told_when N s (resume tally target memory) None;
  survey_told = λ tally target memory. told_when N s (survey tally target memory) None;
  refusal_told = λ c e. told_when N s c (Some e);
}

-- A NEW SITTING

new_sittings : (counts : Marking) (spare : ℕ) → NewOn counts spare (new_on counts spare)
new_sittings counts spare = record { same_counts = λ p. refl; same_spare = refl; nothing_done = λ t. refl }

-- AFTER EVERY LIST OF CALLS

module _ (N : NetMeaning) (law : NetLaw N) (start : State) (new : New start) (calls : List Call) where
  abbrev end : State
  end = after_calls N start calls

  abbrev steps_fired : List ℕ
  steps_fired = history N start calls

  leads : Leads N steps_fired start end
  leads = calls_lead N law start calls

  within : Within N end
  within = calls_within N law start calls (new_within N start new)

  a_run : Realizes N start.counts end.done steps_fired
  a_run = (leads.can_fire, λ t l. omega (arith, leads.done t, new t))

  done_asked : steps_asked N end.done ≡ done_total end
  done_asked = sym (sum_past end.done N.steps 128 law.few_steps within.only)

  spare_now : end.spare + yields_asked N end.done ≡ start.spare + done_total end
  spare_now =
      subst (λ (k : ℕ). end.spare + k ≡ start.spare + done_total end) (yields_is N start.counts end.done steps_fired a_run)
      (subst (λ (k : ℕ). end.spare + order_yields N steps_fired ≡ start.spare + k)
      (length_is N start.counts end.done steps_fired a_run ∙ done_asked) leads.spare)

  -- THE SECOND SITTING

  module _ (other : State) (tally numbers : List ℕ) (memory : ℕ) (given : HandOver N start end other tally numbers memory) where
    abbrev target : Target
    target = exact numbers

    tally_is : (t : ℕ) → at tally t ≡ end.done t
    tally_is t =
        elim (cases_lt t N.steps) [
          | inl l ↦ given.the_done_row.1 t l
          | inr l ↦ at_past tally t (omega (arith, given.the_done_row.0)) ∙ sym (within.only t l)
        ]

    again : Realizes N other.counts (at tally) steps_fired
    again =
        (agreeing_exchanged N law.inputs_inside start.counts other.counts end.done (at tally)
        (λ p l. sym (given.same_start p l)) (λ t _. sym (tally_is t))).realizes steps_fired a_run

    -- sums over the tally are sums over the done row
    weighed : (w : ℕ → ℕ) → sum_to (λ t. at tally t * w t) N.steps ≡ sum_to (λ t. end.done t * w t) N.steps
    weighed w =
        sum_to_same (λ t. at tally t * w t) (λ t. end.done t * w t) N.steps (λ t _. ap (λ (k : ℕ). k * w t) (tally_is t))

    ends : (order : List ℕ) → Realizes N other.counts (at tally) order → (p : ℕ) → p < N.places →
        after N other.counts order p ≡ end.counts p
    ends order r p l =
        omega (
          arith,
          leaves N other.counts (at tally) order r p,
          leaves N start.counts end.done steps_fired a_run p,
          given.same_start p l,
          leads.counts p,
          weighed (λ t. one_at (N.input t) p),
          weighed (λ t. N.yields t p),
        )

    limit : done_total other + steps_asked N (at tally) ≤ done_limit
    limit =
        low (done_total other) (steps_asked N (at tally)) (steps_asked N end.done) (done_total end)
        (sum_to_none other.done 128 (λ u _. given.new u))
        (sum_to_same (at tally) end.done N.steps (λ t _. tally_is t)) done_asked within.limit
      where
        low : (a b c d : ℕ) → a ≡ 0 → b ≡ c → c ≡ d → d ≤ 65535 → a + b ≤ 65535
        low a b c d h i j k = omega arith

    accepted : resume_refusal N other tally target memory ≡ None
    accepted =
        accepts N law other tally target memory
        (record {
          rows = record { tally_long = given.the_done_row.0; target_long = given.the_marking.0; known_kind = omega arith };
          within_limit = limit;
          memory_holds = given.memory_holds;
          spare_holds = given.spare_holds;
        })
        steps_fired
        (again, inl (refl, λ p l. ends steps_fired again p l ∙ sym (given.the_marking.1 p l)))

    is_resumed : after_call N other (resume tally target memory) ≡ after_resume N other tally
    is_resumed = ap (λ (o : Option Refusal). unless o other (after_resume N other tally)) accepted

    spare_after : (after_resume N other tally).spare + start.spare ≡ end.spare + other.spare
    spare_after =
        add (steps_asked N (at tally)) (done_total end) (yields_asked N (at tally)) (yields_asked N end.done)
        (sum_to_same (at tally) end.done N.steps (λ t _. tally_is t) ∙ done_asked) (weighed (yields_of N))
        given.spare_holds spare_now
      where
        add : (n n' y y' : ℕ) → n ≡ n' → y ≡ y' → y ≤ other.spare → end.spare + y' ≡ start.spare + n' →
            ((other.spare + n) - y) + start.spare ≡ end.spare + other.spare
        add n n' y y' h i j k = omega arith

    replayed : ReplayedOn N start end other tally numbers memory
    replayed =
        let e = sym is_resumed in
        record {
          accepted = accepted;
          counts = λ p l. subst (λ (z : State). z.counts p ≡ end.counts p) e
              (ends (the_order N other tally) (such_now N law other tally target memory accepted).0 p l);
          spare = subst (λ (z : State). z.spare + start.spare ≡ end.spare + other.spare) e spare_after;
          done = λ t. subst (λ (z : State). z.done t ≡ end.done t) e (omega (arith, given.new t, tally_is t));
        }

  any_calls : AfterCalls N start calls
  any_calls = record {
    transcript = transcript N start calls;
    counts_accepted_work = λ t. omega (arith, calls_done N start calls t, new t);
    history_leads = leads;
    history_counts = a_run;
    within_the_limit = within.limit;
    only_its_steps = within.only;
    blocks_stay = blocks_stay N law steps_fired start end leads;
    outside_stays = outside_stays N law steps_fired start end leads;
    replays = replayed;
  }

pub promise : Promise
promise = record { in_any_state = any_state; after_any_calls = any_calls; told_and_left = told_and_left; new_sittings = new_sittings }
