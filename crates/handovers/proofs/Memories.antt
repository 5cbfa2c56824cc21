-- What the memories hold, call by call.
use Rattle.std.proofs.Common.{◌≡◌, ℕ, List, [], ◌∷◌, ◌++◌, map, length, Some, None, Option, sym, refl, ap, ◌∙◌, subst, arith}
use Rattle.refusals.specs.declared.Refusal.{Refusal}
use Rattle.theory.specs.Nets.{NetMeaning, NetLaw}
use Rattle.theory.specs.Rows.{at}
use Rattle.answers.specs.declared.Finding.{Finding}
use Rattle.answers.specs.States.{State}
use Rattle.answers.specs.Answers.{unless, written, fire_refusal, resume_refusal, the_order}
use Rattle.answers.specs.Findings.{findings, survey_refusal}
use Rattle.answers.specs.Calls as answers
use Rattle.answers.specs.Calls.{Answer, said, answer_to, after_call, after_calls}
use Rattle.answers.specs.Calls.Call.{fire, resume, survey}
use Rattle.answers.specs.Calls.Answer.{refused, fired_once, order_written, findings_listed}
use Rattle.answers.proofs.Promised.{promise}
use Rattle.handovers.specs.declared.sitting_calls.Call.{Call}
use Rattle.handovers.specs.declared.sitting_calls.Call.TheVariants.{Fire, Resume, Survey}
use Rattle.handovers.specs.Made.{call_of, order_left, findings_left, orders_left, all_findings_left}
use Rattle.handovers.specs.Memories.{Sized, AllSized, NoOrder, NoFindings, EachSays, Memories}

-- the calls of a hand-over are sized by its memories
pub all_sized : (order findings : ℕ) (calls : List Call) → AllSized order findings (map (call_of order findings) calls)
all_sized order findings [] = tt
all_sized order findings (Fire step ∷ calls) = (tt, all_sized order findings calls)
all_sized order findings (Resume request ∷ calls) = (refl, all_sized order findings calls)
all_sized order findings (Survey request ∷ calls) = (refl, all_sized order findings calls)

-- ONE CALL

no_numbers : ◌≡◌ {A = ℕ} 0 1 → ⊥
no_numbers e = omega arith

fire_no_order : (r : Option Refusal) (o : List ℕ) → said r fired_once ≡ order_written o → ⊥
fire_no_order None o e = no_numbers cc
fire_no_order (Some x) o e = no_numbers cc

fire_no_findings : (r : Option Refusal) (o : List Finding) → said r fired_once ≡ findings_listed o → ⊥
fire_no_findings None o e = no_numbers cc
fire_no_findings (Some x) o e = no_numbers cc

survey_no_order : (r : Option Refusal) (l : List Finding) (o : List ℕ) → said r (findings_listed l) ≡ order_written o → ⊥
survey_no_order None l o e = no_numbers cc
survey_no_order (Some x) l o e = no_numbers cc

resume_no_findings : (r : Option Refusal) (l : List ℕ) (o : List Finding) → said r (order_written l) ≡ findings_listed o → ⊥
resume_no_findings None l o e = no_numbers cc
resume_no_findings (Some x) l o e = no_numbers cc

wrote_order : (r : Option Refusal) (mine o memory : List ℕ) → said r (order_written mine) ≡ order_written o → unless r memory (written mine memory) ≡ written o memory
wrote_order None mine o memory e = let same : mine ≡ o = cc in ap (λ z. written z memory) same
wrote_order (Some x) mine o memory e = absurd (no_numbers cc)

wrote_findings : (r : Option Refusal) (mine o memory : List Finding) → said r (findings_listed mine) ≡ findings_listed o → unless r memory (written mine memory) ≡ written o memory
wrote_findings None mine o memory e = let same : mine ≡ o = cc in ap (λ z. written z memory) same
wrote_findings (Some x) mine o memory e = absurd (no_numbers cc)

kept_order : (r : Option Refusal) (mine memory : List ℕ) → NoOrder (said r (order_written mine)) → unless r memory (written mine memory) ≡ memory
kept_order None mine memory h = absurd (h mine refl)
kept_order (Some x) mine memory h = refl

kept_findings : (r : Option Refusal) (mine memory : List Finding) → NoFindings (said r (findings_listed mine)) → unless r memory (written mine memory) ≡ memory
kept_findings None mine memory h = absurd (h mine refl)
kept_findings (Some x) mine memory h = refl

module _ (N : NetMeaning) (law : NetLaw N) where
  order_long : (s : State) (c : answers.Call) (memory : List ℕ) → length (order_left N s c memory) ≡ length memory
  order_long s (fire t) memory = refl
  order_long s (resume tally target size) memory = ((promise.told_and_left N law s).resume_writes tally target memory).as_long
  order_long s (survey tally target size) memory = refl

  findings_long : (s : State) (c : answers.Call) (memory : List Finding) → length (findings_left N s c memory) ≡ length memory
  findings_long s (fire t) memory = refl
  findings_long s (resume tally target size) memory = refl
  findings_long s (survey tally target size) memory = ((promise.told_and_left N law s).survey_writes tally target memory).as_long

  pub order_wrote : (s : State) (c : answers.Call) (n : ℕ) (memory o : List ℕ) → Sized (length memory) n c → answer_to N s c ≡ order_written o → order_left N s c memory ≡ written o memory
  order_wrote s (fire t) n memory o z e = absurd (fire_no_order (fire_refusal N s t) o e)
  order_wrote s (resume tally target size) n memory o z e =
      let E : ℕ → Type 0 = λ k. said (resume_refusal N s tally target k) (order_written (the_order N s tally)) ≡ order_written o in
      wrote_order (resume_refusal N s tally target (length memory)) (the_order N s tally) o memory (subst E z e)
  order_wrote s (survey tally target size) n memory o z e = absurd (survey_no_order (survey_refusal N s tally target size) (findings N s.counts (at tally) target) o e)

  pub findings_wrote : (s : State) (c : answers.Call) (n : ℕ) (memory o : List Finding) → Sized n (length memory) c → answer_to N s c ≡ findings_listed o → findings_left N s c memory ≡ written o memory
  findings_wrote s (fire t) n memory o z e = absurd (fire_no_findings (fire_refusal N s t) o e)
  findings_wrote s (resume tally target size) n memory o z e = absurd (resume_no_findings (resume_refusal N s tally target size) (the_order N s tally) o e)
  findings_wrote s (survey tally target size) n memory o z e =
      let list = findings N s.counts (at tally) target in
      let E : ℕ → Type 0 = λ k. said (survey_refusal N s tally target k) (findings_listed list) ≡ findings_listed o in
      wrote_findings (survey_refusal N s tally target (length memory)) list o memory (subst E z e)

  order_kept : (s : State) (c : answers.Call) (n : ℕ) (memory : List ℕ) → Sized (length memory) n c → NoOrder (answer_to N s c) → order_left N s c memory ≡ memory
  order_kept s (fire t) n memory z h = refl
  order_kept s (resume tally target size) n memory z h =
      let E : ℕ → Type 0 = λ k. NoOrder (said (resume_refusal N s tally target k) (order_written (the_order N s tally))) in
      kept_order (resume_refusal N s tally target (length memory)) (the_order N s tally) memory (subst E z h)
  order_kept s (survey tally target size) n memory z h = refl

  findings_kept : (s : State) (c : answers.Call) (n : ℕ) (memory : List Finding) → Sized n (length memory) c → NoFindings (answer_to N s c) → findings_left N s c memory ≡ memory
  findings_kept s (fire t) n memory z h = refl
  findings_kept s (resume tally target size) n memory z h = refl
  findings_kept s (survey tally target size) n memory z h =
      let list = findings N s.counts (at tally) target in
      let E : ℕ → Type 0 = λ k. NoFindings (said (survey_refusal N s tally target k) (findings_listed list)) in
      kept_findings (survey_refusal N s tally target (length memory)) list memory (subst E z h)

  -- A LIST OF CALLS

  orders_long : (s : State) (calls : List answers.Call) (memory : List ℕ) → length (orders_left N s calls memory) ≡ length memory
  orders_long s [] memory = refl
  orders_long s (c ∷ cs) memory = orders_long (after_call N s c) cs (order_left N s c memory) ∙ order_long s c memory

  all_findings_long : (s : State) (calls : List answers.Call) (memory : List Finding) → length (all_findings_left N s calls memory) ≡ length memory
  all_findings_long s [] memory = refl
  all_findings_long s (c ∷ cs) memory = all_findings_long (after_call N s c) cs (findings_left N s c memory) ∙ findings_long s c memory

  orders_kept : (s : State) (calls : List answers.Call) (n : ℕ) (memory : List ℕ) → AllSized (length memory) n calls → EachSays NoOrder N s calls → orders_left N s calls memory ≡ memory
  orders_kept s [] n memory z h = refl
  orders_kept s (c ∷ cs) n memory z h =
      ap (orders_left N (after_call N s c) cs) (order_kept s c n memory z.0 h.0) ∙ orders_kept (after_call N s c) cs n memory z.1 h.1

  all_findings_kept : (s : State) (calls : List answers.Call) (n : ℕ) (memory : List Finding) → AllSized n (length memory) calls → EachSays NoFindings N s calls → all_findings_left N s calls memory ≡ memory
  all_findings_kept s [] n memory z h = refl
  all_findings_kept s (c ∷ cs) n memory z h =
      ap (all_findings_left N (after_call N s c) cs) (findings_kept s c n memory z.0 h.0) ∙ all_findings_kept (after_call N s c) cs n memory z.1 h.1

  orders_split : (s : State) (earlier later : List answers.Call) (memory : List ℕ) → orders_left N s (earlier ++ later) memory ≡ orders_left N (after_calls N s earlier) later (orders_left N s earlier memory)
  orders_split s [] later memory = refl
  orders_split s (c ∷ cs) later memory = orders_split (after_call N s c) cs later (order_left N s c memory)

  findings_split : (s : State) (earlier later : List answers.Call) (memory : List Finding) → all_findings_left N s (earlier ++ later) memory ≡ all_findings_left N (after_calls N s earlier) later (all_findings_left N s earlier memory)
  findings_split s [] later memory = refl
  findings_split s (c ∷ cs) later memory = findings_split (after_call N s c) cs later (findings_left N s c memory)

  sized_later : (m n : ℕ) (earlier later : List answers.Call) → AllSized m n (earlier ++ later) → AllSized m n later
  sized_later m n [] later z = z
  sized_later m n (c ∷ cs) later z = sized_later m n cs later z.1

  last_order_is : (s : State) (earlier : List answers.Call) (c : answers.Call) (later : List answers.Call) (n : ℕ) (memory o : List ℕ) →
      AllSized (length memory) n (earlier ++ (c ∷ later)) → answer_to N (after_calls N s earlier) c ≡ order_written o →
      EachSays NoOrder N (after_call N (after_calls N s earlier) c) later →
      orders_left N s (earlier ++ (c ∷ later)) memory ≡ written o (orders_left N s earlier memory)
  last_order_is s earlier c later n memory o z e h =
      let s₁ = after_calls N s earlier in
      let m₁ = orders_left N s earlier memory in
      let sized = sized_later (length memory) n earlier (c ∷ later) z in
      let long : length memory ≡ length m₁ = sym (orders_long s earlier memory) in
      let S : ℕ → Type 0 = λ k. Sized k n c in
      let wrote : order_left N s₁ c m₁ ≡ written o m₁ = order_wrote s₁ c n m₁ o (subst S long sized.0) e in
      let longer : length memory ≡ length (written o m₁) = long ∙ sym (order_long s₁ c m₁) ∙ ap length wrote in
      let A : ℕ → Type 0 = λ k. AllSized k n later in
      orders_split s earlier (c ∷ later) memory
      ∙ ap (orders_left N (after_call N s₁ c) later) wrote
      ∙ orders_kept (after_call N s₁ c) later n (written o m₁) (subst A longer sized.1) h

  last_findings_are : (s : State) (earlier : List answers.Call) (c : answers.Call) (later : List answers.Call) (n : ℕ) (memory o : List Finding) →
      AllSized n (length memory) (earlier ++ (c ∷ later)) → answer_to N (after_calls N s earlier) c ≡ findings_listed o →
      EachSays NoFindings N (after_call N (after_calls N s earlier) c) later →
      all_findings_left N s (earlier ++ (c ∷ later)) memory ≡ written o (all_findings_left N s earlier memory)
  last_findings_are s earlier c later n memory o z e h =
      let s₁ = after_calls N s earlier in
      let m₁ = all_findings_left N s earlier memory in
      let sized = sized_later n (length memory) earlier (c ∷ later) z in
      let long : length memory ≡ length m₁ = sym (all_findings_long s earlier memory) in
      let S : ℕ → Type 0 = λ k. Sized n k c in
      let wrote : findings_left N s₁ c m₁ ≡ written o m₁ = findings_wrote s₁ c n m₁ o (subst S long sized.0) e in
      let longer : length memory ≡ length (written o m₁) = long ∙ sym (findings_long s₁ c m₁) ∙ ap length wrote in
      let A : ℕ → Type 0 = λ k. AllSized n k later in
      findings_split s earlier (c ∷ later) memory
      ∙ ap (all_findings_left N (after_call N s₁ c) later) wrote
      ∙ all_findings_kept (after_call N s₁ c) later n (written o m₁) (subst A longer sized.1) h

  pub memories : (start : State) (calls : List answers.Call) (order : List ℕ) (list : List Finding) → AllSized (length order) (length list) calls → Memories N start calls order list
  memories start calls order list z = record {
    orders_in_turn = λ earlier c later e. ap (λ w. orders_left N start w order) e ∙ orders_split start earlier (c ∷ later) order;
    findings_in_turn = λ earlier c later e. ap (λ w. all_findings_left N start w list) e ∙ findings_split start earlier (c ∷ later) list;
    last_order = λ earlier c later e o said h.
        let A : List answers.Call → Type 0 = AllSized (length order) (length list) in
        ap (λ w. orders_left N start w order) e ∙ last_order_is start earlier c later (length list) order o (subst A e z) said h;
    last_findings = λ earlier c later e o said h.
        let A : List answers.Call → Type 0 = AllSized (length order) (length list) in
        ap (λ w. all_findings_left N start w list) e ∙ last_findings_are start earlier c later (length order) list o (subst A e z) said h;
    no_order = λ h. orders_kept start calls (length list) order z h;
    no_findings = λ h. all_findings_kept start calls (length order) list z h;
  }
