-- What is said to the calls of a list is their one transcript.
use Rattle.std.proofs.Common.{◌≡◌, List, [], ◌∷◌, ◌++◌, length, take, drop, refl, ap, ◌∙◌, ap₂, arith}
use Rattle.theory.specs.Nets.{NetMeaning}
use Rattle.answers.specs.States.{State}
use Rattle.answers.specs.Calls.{Call, Answer, after_call, answer_to, after_calls, answers_to}
use Rattle.answers.specs.Promise.{Transcript}

one_each : (N : NetMeaning) (s : State) (calls : List Call) → length (answers_to N s calls) ≡ length calls
one_each N s [] = refl
one_each N s (c ∷ calls) = omega (arith, one_each N (after_call N s c) calls)

-- behind the answers to the earlier calls comes the next one's
next_said : (N : NetMeaning) (s : State) (earlier : List Call) (c : Call) (later : List Call) →
    take 1 (drop (length earlier) (answers_to N s (earlier ++ (c ∷ later)))) ≡ answer_to N (after_calls N s earlier) c ∷ []
next_said N s [] c later = refl
next_said N s (d ∷ earlier) c later = next_said N (after_call N s d) earlier c later

pub transcript : (N : NetMeaning) (s : State) (calls : List Call) → Transcript N s calls (answers_to N s calls)
transcript N s calls = record {
  one_each = one_each N s calls;
  in_turn = λ earlier c later e.
      ap (λ z. take 1 (drop (length earlier) (answers_to N s z))) e ∙ next_said N s earlier c later;
}

-- no other list of answers is one
pub one_transcript : (N : NetMeaning) (s : State) (calls : List Call) (said : List Answer) → Transcript N s calls said →
    said ≡ answers_to N s calls
one_transcript N s [] [] t = refl
one_transcript N s [] (a ∷ said) t = absurd (omega (arith, t.one_each))
one_transcript N s (c ∷ calls) [] t = absurd (omega (arith, t.one_each))
one_transcript N s (c ∷ calls) (a ∷ said) t =
    let only : a ∷ [] ≡ answer_to N s c ∷ [] = t.in_turn [] c calls refl in
    let first : a ≡ answer_to N s c = cc in
    let rest : Transcript N (after_call N s c) calls said = record {
      one_each = omega (arith, t.one_each);
      in_turn = λ earlier d later e. t.in_turn (c ∷ earlier) d later (ap (λ z. c ∷ z) e);
    } in
    ap₂ ◌∷◌ first (one_transcript N (after_call N s c) calls said rest)
