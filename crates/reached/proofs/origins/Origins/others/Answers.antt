use Rattle.std.proofs.Common.{◌≡◌, ℕ, true, List, ltb, eqb, Decides, refl, sym, ap, ◌∙◌, subst, arith}
use Rattle.std.proofs.lemmas.Bool.{or_right, and_from, eq-eqb, lt-ltb}
use Rattle.std.proofs.lemmas.Grind.{get_or_default_zero}
use Rattle.sets.specs.Flags.{has}
use Rattle.theory.specs.Rows.{at}
use Rattle.reached.specs.Led.{OtherOrigin, has_at}
use Rattle.reached.proofs.origins.Origins.others.Goals as goal
use Rattle.reached.proofs.origins.Origins.others.Goals.{then-not-contains, else-not-contains}

pub returns-clause-answer : goal.returns-clause-answer
returns-clause-answer c q =
    let s = c.args.self.now in
    let s' = c.if-not-contains.self in
    let place = c.args.place in
    let before : s'.before ≡ s.before = elim c.if-not-contains.branch [
      | then-not-contains w ↦ ap (λ z. z.before) w.self-is
      | else-not-contains w ↦ ap (λ z. z.before) w.self-is
    ] in
    let known : has s'.known place ≡ true = elim c.if-not-contains.branch [
      | then-not-contains w ↦ ap (λ z. has z.known place) w.self-is
          ∙ (w.with-self.ensures.answer place
          ∙ or_right (has s.known place) _ (and_from (eqb place place) (ltb place 64) (eq-eqb place place refl) (lt-ltb place 64 c.requires)))
      | else-not-contains w ↦ ap (λ z. has z.known place) w.self-is ∙ sym w.if-not-contains.ensures
    ] in
    let there = get_or_default_zero s'.above c.from-2.result c.index-self-from-2.result (omega (arith, c.requires, c.from-2.ensures)) ∙ ap (at s'.above) c.from-2.ensures in
    let D : ℕ → List ℕ → Type 0 = λ set row. Decides (has set q) (OtherOrigin (has_at row) place q) in
    subst (D _) before (subst (λ v. D v s'.before) (sym there) (s'.found place c.requires known q))
