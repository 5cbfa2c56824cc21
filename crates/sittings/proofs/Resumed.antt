-- A tally fired on a board, as a resume of a sitting.
use Rattle.std.proofs.Common.{◌≡◌, ℕ, List, length, Some, None, Ok, Err, Option, Result, refl, subst, arith}
use Rattle.refusals.specs.declared.Refusal.{Refusal}
use Rattle.theory.specs.Nets.{NetMeaning, NetLaw}
use Rattle.theory.specs.Firing.{Marking}
use Rattle.theory.specs.Tallies.{Tally}
use Rattle.answers.specs.States.{State, Target}
use Rattle.answers.specs.Answers.{unless, resume_refusal, after_resume}
use Rattle.answers.specs.Reasons.{ResumeFits}
use Rattle.sittings.specs.Fired.{Fired}
use Rattle.answers.proofs.Answered.{refused_with, accepted_with}
use Rattle.answers.proofs.Resumes.{fits_now}
use Rattle.sittings.proofs.States.{state_path}

-- counts and spare that a call leaves, with the done row that it leaves
left_refused : (o : Option Refusal) (e : Refusal) (s next : State) (counts : Marking) (spare : ℕ) → o ≡ Some e →
    counts ≡ unless o s.counts next.counts → spare ≡ unless o s.spare next.spare →
    record { counts = counts; spare = spare; done = s.done } ≡ unless o s next
left_refused None e s next counts spare h c p = absurd (let z : ◌≡◌ {A = ℕ} 0 1 = cc in omega arith)
left_refused (Some d) e s next counts spare h c p = state_path (record { counts = counts; spare = spare; done = s.done }) s c p refl

left_accepted : (o : Option Refusal) (s next : State) (counts : Marking) (spare : ℕ) (done : Tally) → o ≡ None →
    counts ≡ unless o s.counts next.counts → spare ≡ unless o s.spare next.spare → done ≡ next.done →
    record { counts = counts; spare = spare; done = done } ≡ unless o s next
left_accepted None s next counts spare done h c p d = state_path (record { counts = counts; spare = spare; done = done }) next c p d
left_accepted (Some e) s next counts spare done h c p d = absurd (let z : ◌≡◌ {A = ℕ} 0 1 = cc in omega arith)

module _ (N : NetMeaning) (s : State) (tally : List ℕ) (target : Target) (memory : List ℕ) (counts : Marking) (spare : ℕ) (memory' : List ℕ) where
  pub refused_resume : (e : Refusal) → Fired N s tally target memory (Err e) counts spare memory' →
      record { counts = counts; spare = spare; done = s.done } ≡ unless (resume_refusal N s tally target (length memory)) s (after_resume N s tally)
  refused_resume e f =
      left_refused (resume_refusal N s tally target (length memory)) e s (after_resume N s tally) counts spare
      (refused_with (resume_refusal N s tally target (length memory)) _ e f.answer) f.counts f.spare

  pub accepted_resume : (n : ℕ) (done : Tally) → Fired N s tally target memory (Ok n) counts spare memory' → done ≡ (after_resume N s tally).done →
      record { counts = counts; spare = spare; done = done } ≡ unless (resume_refusal N s tally target (length memory)) s (after_resume N s tally)
  accepted_resume n done f d =
      left_accepted (resume_refusal N s tally target (length memory)) s (after_resume N s tally) counts spare done
      (accepted_with (resume_refusal N s tally target (length memory)) _ n f.answer) f.counts f.spare d

-- what was fired by the table of a net was fired by the net
pub fired_by_net : {M N : NetMeaning} {s : State} {tally memory memory' : List ℕ} {target : Target} {q r : Result ℕ Refusal} {counts : Marking} {spare : ℕ} →
    M ≡ N → q ≡ r → Fired M s tally target memory q counts spare memory' → Fired N s tally target memory r counts spare memory'
fired_by_net {N = N} {s = s} {tally = tally} {memory = memory} {memory' = memory'} {target = target} {q = q} {counts = counts} {spare = spare} net was f =
    let F : NetMeaning → Type 0 = λ z. Fired z s tally target memory q counts spare memory' in
    let G : Result ℕ Refusal → Type 0 = λ z. Fired N s tally target memory z counts spare memory' in
    subst G was (subst F net f)

-- and where it was accepted, its sizes fit
pub sizes_of_accepted : {M N : NetMeaning} {s : State} {tally memory memory' : List ℕ} {target : Target} {q : Result ℕ Refusal} {n : ℕ} {counts : Marking} {spare : ℕ} →
    NetLaw N → M ≡ N → q ≡ Ok n → Fired M s tally target memory q counts spare memory' → ResumeFits N s tally target (length memory)
sizes_of_accepted {N = N} {s = s} {tally = tally} {memory = memory} {target = target} {n = n} law net was f =
    fits_now N law s tally target (length memory)
    (accepted_with (resume_refusal N s tally target (length memory)) _ n (fired_by_net net was f).answer)
