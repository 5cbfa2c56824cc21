-- What passes at some number of a set, as the set grows by one number.
use Rattle.std.proofs.Common.{◌≡◌, ℕ, ◌<◌, Bool, true, false, ◌&&◌, ◌||◌, eqb, sym, refl, ◌∙◌, subst, inl, inr}
use Rattle.std.proofs.lemmas.Bool.{both_ways, and_parts, and_from, or_cases, or_left, or_right, eqb-true, eq-eqb}
use Rattle.std.proofs.lemmas.Bool.Decides.{same_from_decides}
use Rattle.first_order.specs.Tables.{any_step}
use Rattle.reached.proofs.Flagged.{any_alike}
use Rattle.theory.proofs.ReachRounds.{any_find, any_from}

pub same_truth : (v w : Bool) → (v ≡ true → w ≡ true) → (w ≡ true → v ≡ true) → v ≡ w
same_truth v w f g = same_from_decides v w (λ e. e, λ e. e) (g, f)

pub step_find : (b : ℕ → Bool) → any_step b ≡ true → (t : ℕ) × (t < 128) × (b t ≡ true)
unfolding any_step
step_find b e = any_find b 128 e

pub step_from : (b : ℕ → Bool) (t : ℕ) → t < 128 → b t ≡ true → any_step b ≡ true
unfolding any_step
step_from b t l e = any_from b t 128 l e

pub step_alike : (a b : ℕ → Bool) → ((t : ℕ) → a t ≡ b t) → any_step a ≡ any_step b
unfolding any_step
step_alike a b h = any_alike a b 128 (λ t l. h t)

pub step_none : (a b : ℕ → Bool) → ((t : ℕ) → a t ≡ false) → any_step (λ t. a t && b t) ≡ false
step_none a b none = same_truth (any_step (λ t. a t && b t)) false
    (λ e.
    let w = step_find (λ t. a t && b t) e in
    absurd (both_ways (a w.0) (none w.0) (and_parts (a w.0) (b w.0) w.2).0))
    (λ e. absurd (both_ways false refl e))

pub step_added : (a a' b : ℕ → Bool) (k : ℕ) → k < 128 → ((t : ℕ) → a' t ≡ (a t || eqb t k)) →
    (any_step (λ t. a t && b t) || b k) ≡ any_step (λ t. a' t && b t)
step_added a a' b k l added = same_truth (any_step (λ t. a t && b t) || b k) (any_step (λ t. a' t && b t))
    (λ e. elim (or_cases (any_step (λ t. a t && b t)) (b k) e) [
      | inl h ↦
          let w = step_find (λ t. a t && b t) h in
          let p = and_parts (a w.0) (b w.0) w.2 in
          step_from (λ t. a' t && b t) w.0 w.1 (and_from (a' w.0) (b w.0) (added w.0 ∙ or_left (a w.0) _ p.0) p.1)
      | inr h ↦
          step_from (λ t. a' t && b t) k l
          (and_from (a' k) (b k) (added k ∙ or_right (a k) (eqb k k) (eq-eqb k k refl)) h)
    ])
    (λ e.
    let w = step_find (λ t. a' t && b t) e in
    let p = and_parts (a' w.0) (b w.0) w.2 in
    elim (or_cases (a w.0) (eqb w.0 k) (sym (added w.0) ∙ p.0)) [
      | inl h ↦ or_left (any_step (λ t. a t && b t)) (b k) (step_from (λ t. a t && b t) w.0 w.1 (and_from (a w.0) (b w.0) h p.1))
      | inr h ↦ or_right (any_step (λ t. a t && b t)) (b k) (subst (λ (t : ℕ). b t ≡ true) (eqb-true w.0 k h) p.1)
    ])

pub none_of : (v w : Bool) → w ≡ false → (v && w) ≡ false
none_of true w e = e
none_of false w e = refl

pub both_of : (v w z : Bool) → ((v && w) || (v && z)) ≡ (v && (w || z))
both_of true w z = refl
both_of false w z = refl
