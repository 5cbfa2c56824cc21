-- What the checks of a tally tell of the sitting that it is fired on.
use Rattle.std.proofs.Common.{◌≡◌, ℕ, List, None, Option, sym, ap, ◌∙◌}
use mathlib.Core.Path.{fun_ext}
use Rattle.refusals.specs.declared.Refusal.{Refusal}
use Rattle.theory.specs.Nets.{NetMeaning}
use Rattle.theory.specs.Rows.{at}
use Rattle.theory.specs.Firing.{Marking}
use Rattle.answers.specs.States.{state_of, target_of, Target}
use Rattle.answers.specs.declared.Kind.{Kind}
use Rattle.answers.specs.Kinds.{byte_of, target_with}
use Rattle.answers.specs.Answers.{size_refusal, cause_refusal, resume_refusal}
use Rattle.answers.proofs.Options.{or_none}

module _ (N : NetMeaning) (counts : Marking) (spare : ℕ) (done tally numbers : List ℕ) (byte memory : ℕ)
    (M : NetMeaning) (tally' : List ℕ) (net : M ≡ N) (same_tally : tally' ≡ tally) where
  -- the sizes, as the flow of the tally and the board's spare were asked for them
  pub sizes_as_asked : (asked : ℕ) (o : Option Refusal) → asked ≡ spare →
      size_refusal M (state_of counts asked done) tally' (target_of numbers byte) memory ≡ o →
      size_refusal N (state_of counts spare done) tally (target_of numbers byte) memory ≡ o
  sizes_as_asked asked o e h =
      let same : size_refusal M (state_of counts asked done) tally' (target_of numbers byte) memory ≡ size_refusal N (state_of counts spare done) tally (target_of numbers byte) memory = cc in
      sym same ∙ h

  -- the causes, as the row of the board's counts and the known kind were asked for them
  module _ (row : List ℕ) (kind : Kind) (counted : (p : ℕ) → at row p ≡ counts p) (known : byte ≡ byte_of kind) where
    pub causes_as_asked : (o : Option Refusal) →
        cause_refusal M (at row) (at tally') (target_with numbers kind) ≡ o → cause_refusal N counts (at tally) (target_of numbers byte) ≡ o
    causes_as_asked o h =
        let asked : cause_refusal M (at row) (at tally') (target_with numbers kind) ≡ cause_refusal N (at row) (at tally) (target_with numbers kind) = cc in
        let causes : Marking → Target → Option Refusal = λ m t. cause_refusal N m (at tally) t in
        sym (asked ∙ ap (λ m. causes m (target_with numbers kind)) (fun_ext counted) ∙ ap (λ z. causes counts (target_of numbers z)) (sym known)) ∙ h

    -- neither refuses
    pub accepted_as_asked : (asked : ℕ) → asked ≡ spare → size_refusal M (state_of counts asked done) tally' (target_of numbers byte) memory ≡ None →
        cause_refusal M (at row) (at tally') (target_with numbers kind) ≡ None →
        resume_refusal N (state_of counts spare done) tally (target_of numbers byte) memory ≡ None
    accepted_as_asked asked e sizes h =
        or_none (size_refusal N (state_of counts spare done) tally (target_of numbers byte) memory) (cause_refusal N counts (at tally) (target_of numbers byte))
        (sizes_as_asked asked None e sizes) (causes_as_asked None h)
