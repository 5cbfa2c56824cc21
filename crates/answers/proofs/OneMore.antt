-- One more call behind a list of calls.
use Rattle.std.proofs.Common.{◌≡◌, List, [], ◌∷◌, ◌++◌, refl, ap}
use Rattle.theory.specs.Nets.{NetMeaning}
use Rattle.answers.specs.States.{State}
use Rattle.answers.specs.Calls.{Call, after_call, answer_to, after_calls, answers_to}

pub after_one_more : (N : NetMeaning) (s : State) (calls : List Call) (c : Call) →
    after_calls N s (calls ++ (c ∷ [])) ≡ after_call N (after_calls N s calls) c
after_one_more N s [] c = refl
after_one_more N s (d ∷ calls) c = after_one_more N (after_call N s d) calls c

pub answers_one_more : (N : NetMeaning) (s : State) (calls : List Call) (c : Call) →
    answers_to N s (calls ++ (c ∷ [])) ≡ answers_to N s calls ++ (answer_to N (after_calls N s calls) c ∷ [])
answers_one_more N s [] c = refl
answers_one_more N s (d ∷ calls) c = ap (λ z. answer_to N s d ∷ z) (answers_one_more N (after_call N s d) calls c)
