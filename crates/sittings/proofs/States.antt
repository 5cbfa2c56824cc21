-- States that agree are equal.
use Rattle.std.proofs.Common.{◌≡◌, ℕ, ap, ◌∙◌}
use Rattle.answers.specs.States.{State}

pub state_path : (a b : State) → a.counts ≡ b.counts → a.spare ≡ b.spare → a.done ≡ b.done → a ≡ b
state_path a b c s d =
    ap (λ (x : ℕ → ℕ). record { counts = x; spare = a.spare; done = a.done }) c
    ∙ ap (λ (x : ℕ). record { counts = b.counts; spare = x; done = a.done }) s
    ∙ ap (λ (x : ℕ → ℕ). record { counts = b.counts; spare = b.spare; done = x }) d
