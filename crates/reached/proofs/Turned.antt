-- What leads to a place is found backward from the place.
use Rattle.std.proofs.Common.{◌≡◌, ℕ, Bool, true, not, ◌||◌, eqb, Decides, refl, sym, ap, ◌∙◌, inl, inr}
use Rattle.std.proofs.lemmas.Bool.{cases_eq, or_cases, or_left, or_right, cases_Bool, both_ways, eqb-true, eq-eqb}
use Rattle.reached.specs.Led.{Led, OtherOrigin}
use Rattle.reached.proofs.Searching.{led_first, led_on}

module _ (leads back : ℕ → ℕ → Bool) (same : (p q : ℕ) → back p q ≡ leads q p) (first : ℕ → Bool) (p : ℕ)
    (above : ℕ → Bool) (found : (q : ℕ) → Decides (above q) (Led back (λ z. eqb z p) q)) where
  -- the places from which p is not reached
  others : ℕ → Bool
  others q = not (above q)

  -- with a place, those that lead there are above p
  above_on : (q r : ℕ) → above q ≡ true → leads r q ≡ true → above r ≡ true
  above_on q r h e = (found r).1 (led_on back (λ z. eqb z p) q r ((found q).0 h) (same q r ∙ e))

  -- if a first place is above p, then p is led to
  pub led_from : (q : ℕ) → first q ≡ true → above q ≡ true → Led leads first p
  led_from q h a set has closed = elim (cases_Bool (set p)) [
    | inl e ↦ e
    | inr e ↦
        let out : not (set q) ≡ true = (found q).0 a (λ z. not (set z))
        (λ z here. ap (λ (v : ℕ). not (set v)) (eqb-true z p here) ∙ ap not e)
        (λ b c n l. elim (cases_Bool (set c)) [
          | inl s ↦ absurd (both_ways (not (set b)) (ap not (closed c b s (sym (same b c) ∙ l))) n)
          | inr s ↦ ap not s
        ]) in
        absurd (both_ways (not (set q)) (ap not (has q h)) out)
  ]

  -- if none is, then it is not
  pub led_only_from : ((q : ℕ) → first q ≡ true → above q ≡ true → ⊥) → Led leads first p → ⊥
  unfolding others
  led_only_from none led =
      both_ways (not (above p)) (ap not ((found p).1 (led_first back (λ z. eqb z p) p (eq-eqb p p refl))))
      (led others
      (λ q h. elim (cases_Bool (above q)) [ inl a ↦ absurd (none q h a) | inr a ↦ ap not a ])
      (λ q r n e. elim (cases_Bool (above r)) [
        | inl a ↦ absurd (both_ways (not (above q)) (ap not (above_on r q a e)) n)
        | inr a ↦ ap not a
      ]))

-- the other origins of a place, with itself
pub with_itself : (back : ℕ → ℕ → Bool) (p : ℕ) (others : ℕ → Bool) → ((q : ℕ) → Decides (others q) (OtherOrigin back p q)) →
    (q : ℕ) → Decides (eqb q p || others q) (Led back (λ z. eqb z p) q)
with_itself back p others found q = (
  λ e. elim (or_cases (eqb q p) (others q) e) [
    | inl h ↦ led_first back (λ z. eqb z p) q h
    | inr h ↦ ((found q).0 h).0
  ],
  λ l. elim (cases_eq q p) [
    | inl s ↦ or_left (eqb q p) (others q) (eq-eqb q p s)
    | inr d ↦ or_right (eqb q p) (others q) ((found q).1 (l, d))
  ],
)
