-- Calls with memory of their own: what is kept of that memory is what the call wrote, and one call more.
use Rattle.std.proofs.Common.{◌≡◌, ℕ, ◌≤◌, true, List, [], ◌∷◌, ◌++◌, map, length, take, is_err, Ok, Err, Result, sym, refl, ap, ◌∙◌, true≢false, arith, MatchResult}
use lib.ListN.{length-map}
use Rattle.std.proofs.lemmas.List.{take-map}
use Rattle.refusals.specs.declared.Refusal.{Refusal}
use Rattle.theory.specs.Nets.{NetMeaning, NetLaw}
use Rattle.answers.specs.declared.Finding.{Finding}
use Rattle.answers.specs.States.{State}
use Rattle.answers.specs.Calls.{Call, Answer, answer_to, answers_to, after_call, after_calls}
use Rattle.answers.specs.Calls.Answer.{refused, fired_once, order_written, findings_listed}
use Rattle.answers.proofs.OneMore.{after_one_more, answers_one_more}
use Rattle.handovers.specs.declared.owned_calls.OwnedCall.{OwnedCall}
use Rattle.handovers.specs.declared.owned_calls.OwnedCall.TheVariants as owned
use Rattle.handovers.specs.declared.sitting_calls.Done.{Done}
use Rattle.handovers.specs.Made.{told, Made}
use Rattle.handovers.specs.Memories.{Sized}
use Rattle.handovers.specs.Performed.{findings_size, order_size, owned_call, with_front, Kept, AllKept, SomeMade}
use Rattle.handovers.proofs.Memories.{order_wrote, findings_wrote}

-- the front of memory that was written
take_written : {A : Type 0} (xs ys : List A) → take (length xs) (xs ++ ys) ≡ xs
take_written [] ys = refl
take_written (x ∷ xs) ys = ap (λ w. x ∷ w) (take_written xs ys)

front : {A : Type 0} (n : ℕ) (xs ys : List A) → length xs ≡ n → take n (xs ++ ys) ≡ xs
front n xs ys long = ap (λ m. take m (xs ++ ys)) (sym long) ∙ take_written xs ys

-- both memories, each with nothing behind what was lent
pub fronts : (answer : Result Done Refusal) (m n : ℕ) (order more : List ℕ) (findings others : List Finding) → length order ≡ m → length findings ≡ n →
    with_front answer (take m (order ++ more)) (take n (findings ++ others)) ≡ with_front answer order findings
fronts answer m n order more findings others o f =
    ap (λ z. with_front answer z (take n (findings ++ others))) (front m order more o) ∙ ap (with_front answer order) (front n findings others f)

pub front_alone : (answer : Result Done Refusal) (m : ℕ) (order more : List ℕ) (findings : List Finding) → length order ≡ m → findings ≡ [] →
    with_front answer (take m (order ++ more)) findings ≡ with_front answer order []
front_alone answer m order more findings o none =
    ap (λ z. with_front answer z findings) (front m order more o) ∙ ap (with_front answer order) none

-- what is told of an answer, with what it says at the front of memory, is the answer
with_front_told : (a : Answer) (order : List ℕ) (findings : List Finding) →
    ((o : List ℕ) → a ≡ order_written o → take (length o) order ≡ o) → ((l : List Finding) → a ≡ findings_listed l → take (length l) findings ≡ l) →
    with_front (told a) order findings ≡ a
with_front_told (refused e) order findings f g = refl
with_front_told fired_once order findings f g = refl
with_front_told (order_written o) order findings f g = ap order_written (f o refl)
with_front_told (findings_listed l) order findings f g = ap findings_listed (g l refl)

-- what is kept of a call that was made
pub made_kept : (N : NetMeaning) → NetLaw N → (s : State) (c : Call) (order : List ℕ) (findings : List Finding) (answer : Result Done Refusal) (s' : State) (order' : List ℕ) (findings' : List Finding) →
    Sized (length order) (length findings) c → Made N s c order findings answer s' order' findings' → Kept N s c (with_front answer order' findings') s'
made_kept N law s c order findings answer s' order' findings' sized made = record {
  said =
      ap (λ z. with_front z order' findings') made.said
      ∙ with_front_told (answer_to N s c) order' findings'
      (λ o e. ap (take (length o)) (made.order_is ∙ order_wrote N law s c (length findings) order o sized e) ∙ take_written o _)
      (λ l e. ap (take (length l)) (made.findings_are ∙ findings_wrote N law s c (length order) findings l sized e) ∙ take_written l _);
  left = made.left;
}

-- the call of a value is sized by it
pub owned_sized : (c : OwnedCall) → Sized (order_size c) (findings_size c) (owned_call c)
owned_sized (owned.Fire step) = tt
owned_sized (owned.Resume request) = refl
owned_sized (owned.Survey request) = refl

-- one call more is made
pub all_kept_more : (N : NetMeaning) (s : State) (calls : List Call) (transcript : List Answer) (s₁ : State) (call : Call) (answer : Answer) (s₂ : State) →
    AllKept N s calls transcript s₁ → Kept N s₁ call answer s₂ → AllKept N s (calls ++ (call ∷ [])) (transcript ++ (answer ∷ [])) s₂
all_kept_more N s calls transcript s₁ call answer s₂ all kept =
    let same = all.left in
    record {
      transcript =
          ap (λ z. z ++ (answer ∷ [])) all.transcript
          ∙ ap (λ z. answers_to N s calls ++ (z ∷ [])) (kept.said ∙ ap (λ z. answer_to N z call) same)
          ∙ sym (answers_one_more N s calls call);
      left = kept.left ∙ ap (λ z. after_call N z call) same ∙ sym (after_one_more N s calls call);
    }

-- what holds of an error, where the answer is one
pub cases_err : {X E : Type 0} (r : Result X E) (P : X → Type 0) (Q : Type 0) → is_err r ≡ true → Q → MatchResult r P (λ _. Q)
cases_err (Ok x) P Q h q = absurd (true≢false (sym h))
cases_err (Err e) P Q h q = q

-- so many calls are made
pub some_made : (N : NetMeaning) (s : State) {X : Type 0} (of : X → Call) (calls : List X) (k : ℕ) (transcript : List Answer) (s₁ s' : State) →
    k ≤ length calls → AllKept N s (map of (take k calls)) transcript s₁ → s' ≡ s₁ → SomeMade N s (map of calls) s'
some_made N s of calls k transcript s₁ s' few all same = record {
  made = k;
  few = omega (arith, length-map calls of);
  left = same ∙ all.left ∙ ap (after_calls N s) (sym (take-map of k calls));
}
