-- What firing a tally leaves, refused and accepted.
use Rattle.std.proofs.Common.{◌≡◌, ℕ, List, length, Some, None, Ok, Err, Result, sym, ap, ◌∙◌}
use Rattle.refusals.specs.Answered.{answered}
use Rattle.refusals.specs.declared.Refusal.{Refusal}
use Rattle.theory.specs.Nets.{NetMeaning}
use Rattle.theory.specs.Firing.{Marking}
use Rattle.answers.specs.States.{State, Target}
use Rattle.answers.specs.Answers.{written, resume_refusal, the_order, after_resume}
use Rattle.answers.proofs.Unless.{unless_refused, unless_accepted}
use Rattle.sittings.specs.Fired.{Fired}

module _ (N : NetMeaning) (s : State) (tally : List ℕ) (target : Target) (memory : List ℕ) where
  pub refused_tally : (e : Refusal) (r : Result ℕ Refusal) → r ≡ Err e → resume_refusal N s tally target (length memory) ≡ Some e →
      Fired N s tally target memory r s.counts s.spare memory
  refused_tally e r said h =
      let o = resume_refusal N s tally target (length memory) in
      record {
        answer = said ∙ ap (λ z. answered z (length (the_order N s tally))) (sym h);
        counts = unless_refused o e s.counts (after_resume N s tally).counts h;
        spare = unless_refused o e s.spare (after_resume N s tally).spare h;
        written = unless_refused o e memory (written (the_order N s tally) memory) h;
      }

  pub accepted_tally : (n : ℕ) (counts' : Marking) (spare' : ℕ) (memory' : List ℕ) → resume_refusal N s tally target (length memory) ≡ None →
      n ≡ length (the_order N s tally) → counts' ≡ (after_resume N s tally).counts → spare' ≡ (after_resume N s tally).spare →
      memory' ≡ written (the_order N s tally) memory → Fired N s tally target memory (Ok n) counts' spare' memory'
  accepted_tally n counts' spare' memory' h answer counts spare memory-is =
      let o = resume_refusal N s tally target (length memory) in
      record {
        answer = ap Ok answer ∙ ap (λ z. answered z (length (the_order N s tally))) (sym h);
        counts = unless_accepted o s.counts (after_resume N s tally).counts counts' h counts;
        spare = unless_accepted o s.spare (after_resume N s tally).spare spare' h spare;
        written = unless_accepted o memory (written (the_order N s tally) memory) memory' h memory-is;
      }
