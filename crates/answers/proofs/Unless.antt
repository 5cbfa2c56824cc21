-- What is there after a call that may be refused.
use Rattle.std.proofs.Common.{◌≡◌, Some, None, Option, sym, ap, ◌∙◌}
use Rattle.refusals.specs.declared.Refusal.{Refusal}
use Rattle.answers.specs.Answers.{unless}

-- a refused call leaves what was there
pub unless_refused : {A : Type 0} (o : Option Refusal) (e : Refusal) (before next : A) → o ≡ Some e → before ≡ unless o before next
unless_refused o e before next h = ap (λ z. unless z before next) (sym h)

-- an accepted one leaves what comes next
pub unless_accepted : {A : Type 0} (o : Option Refusal) (before next z : A) → o ≡ None → z ≡ next → z ≡ unless o before next
unless_accepted o before next z h e = e ∙ ap (λ w. unless w before next) (sym h)
