use Rattle.std.proofs.Common.{◌≡◌, ℕ, Bool, true, false, not, ◌&&◌, ◌||◌, eqb, Decides, sym, refl, ap, ◌∙◌, subst, inl, inr}
use Rattle.std.proofs.lemmas.Bool.{cases_Bool, both_ways, or_cases, or_left, or_right, and_parts, and_from, and_right, eq-eqb, ne_eqb, eqb-true}
use Rattle.theory.specs.Rows.{at}
use Rattle.sets.specs.Flags.{has}
use Rattle.reached.specs.Led.{Led, has_at}
use Rattle.reached.proofs.Turned.{led_from, led_only_from, with_itself}
use Rattle.first_order.specs.declared.schedule.Schedule.{Schedule}
use Rattle.first_order.specs.Tables.{marked_after}
use Rattle.first_order.proofs.schedule.Schedule.comes_back.Goals as goal

pub returns-clause-answer : goal.returns-clause-answer
returns-clause-answer c =
    let s : Schedule = c.args.self.now in
    let t : ℕ = c.args.step in
    let p : ℕ = at s.inputs t in
    let leads : ℕ → ℕ → Bool = λ q z. has_at s.origins.before z q in
    let others : ℕ → Bool = has c.others.result in
    let found = subst (λ (z : ℕ). (q : ℕ) → Decides (has c.others.result q) (Led (has_at s.origins.before) (λ y. eqb y z) q × (q ≡ z → ⊥))) c.input-place.ensures.table c.others.ensures.answer in
    let above : ℕ → Bool = λ q. eqb q p || others q in
    let all = with_itself (has_at s.origins.before) p others found in
    let held : (q : ℕ) → has c.union-held.result q ≡ (has s.marked q || has_at s.yields t q) =
    λ q. c.union-held.ensures q ∙ ap (λ (v : Bool). has s.marked q || v) (c.yields.ensures q) in (
      λ e.
          let w = c.intersects.ensures.0 e in
          let far = ((found w.0).0 w.2).1 in
          let first : marked_after s t w.0 ≡ true = elim (or_cases (has s.marked w.0) (has_at s.yields t w.0) (sym (held w.0) ∙ w.1)) [
            | inl h ↦
                or_left (has s.marked w.0 && not (eqb w.0 p)) (has_at s.yields t w.0)
                (and_from (has s.marked w.0) (not (eqb w.0 p)) h (ap not (ne_eqb w.0 p far)))
            | inr h ↦ or_right (has s.marked w.0 && not (eqb w.0 p)) (has_at s.yields t w.0) h
          ] in
          led_from leads (has_at s.origins.before) (λ z q. refl) (marked_after s t) p above all w.0 first (or_right (eqb w.0 p) (others w.0) w.2),
      λ r. elim (cases_Bool c.intersects.result) [
        | inl e ↦ e
        | inr e ↦ absurd (led_only_from leads (has_at s.origins.before) (λ z q. refl) (marked_after s t) p above all
            (λ q h a. elim (or_cases (eqb q p) (others q) a) [
              | inl same ↦ both_ways (marked_after s t p) (here s t p c.requires.none) (ap (marked_after s t) (sym (eqb-true q p same)) ∙ h)
              | inr o ↦ both_ways c.intersects.result e (c.intersects.ensures.1 (q, held q ∙ still s t q h, o))
            ]) r)
      ],
    )
  where
    -- where the step takes the last block and yields none, none lies after it
    here : (s : Schedule) (t p : ℕ) → has_at s.yields t (at s.inputs t) ≡ false → marked_after s t (at s.inputs t) ≡ false
    here s t p none =
        ap (λ (v : Bool). (has s.marked (at s.inputs t) && not v) || has_at s.yields t (at s.inputs t)) (eq-eqb (at s.inputs t) (at s.inputs t) refl)
        ∙ ap (λ (v : Bool). v || has_at s.yields t (at s.inputs t)) (and_right (has s.marked (at s.inputs t)) false refl) ∙ none

    still : (s : Schedule) (t q : ℕ) → marked_after s t q ≡ true → (has s.marked q || has_at s.yields t q) ≡ true
    still s t q h = elim (or_cases (has s.marked q && not (eqb q (at s.inputs t))) (has_at s.yields t q) h) [
      | inl a ↦ or_left (has s.marked q) (has_at s.yields t q) (and_parts (has s.marked q) (not (eqb q (at s.inputs t))) a).0
      | inr b ↦ or_right (has s.marked q) (has_at s.yields t q) b
    ]
