-- A search over the places that are led to: what holds while it goes on, and what it has found at its end.
use Rattle.std.proofs.Common.{◌≡◌, ℕ, Bool, true, false, not, ◌&&◌, ◌||◌, eqb, ltb, Decides, sym, ◌∙◌, subst, inl, inr}
use Rattle.std.proofs.lemmas.Bool.{both_ways, or_cases, or_left, or_right, and_parts, and_cases, not-false, eqb-true}
use Rattle.reached.specs.Led.{Led}

-- the places seen so far, of which some are done: what these lead to is seen
pub record Searching (leads : ℕ → ℕ → Bool) (first seen done : ℕ → Bool) : Type 0 where
  pub all_first : (p : ℕ) → first p ≡ true → seen p ≡ true
  pub only_led : (p : ℕ) → seen p ≡ true → Led leads first p
  pub done_lead : (q p : ℕ) → done q ≡ true → leads q p ≡ true → seen p ≡ true

-- a first place is led to
pub led_first : (leads : ℕ → ℕ → Bool) (first : ℕ → Bool) (p : ℕ) → first p ≡ true → Led leads first p
led_first leads first p h set has closed = has p h

-- and so is where a place that is led to leads
pub led_on : (leads : ℕ → ℕ → Bool) (first : ℕ → Bool) (q p : ℕ) → Led leads first q → leads q p ≡ true → Led leads first p
led_on leads first q p l e set has closed = closed q p (l set has closed) e

-- the same places are led to from the same first places
pub led_alike : (leads : ℕ → ℕ → Bool) (a b : ℕ → Bool) → ((p : ℕ) → a p ≡ b p) → (p : ℕ) → Led leads a p → Led leads b p
led_alike leads a b e p l set has closed = l set (λ q h. has q (sym (e q) ∙ h)) closed

module _ (leads : ℕ → ℕ → Bool) (first : ℕ → Bool) where
  pub search_begins : (done : ℕ → Bool) → ((p : ℕ) → done p ≡ false) → Searching leads first first done
  search_begins done none = record {
    all_first = λ p h. h;
    only_led = led_first leads first;
    done_lead = λ q p d l. absurd (both_ways (done q) (none q) d);
  }

  module _ (seen done seen' done' : ℕ → Bool) (s : Searching leads first seen done) where
    -- one more place is done
    pub search_goes_on : (place : ℕ) → seen place ≡ true →
        ((p : ℕ) → done' p ≡ (done p || (eqb p place && ltb place 64))) →
        ((p : ℕ) → seen' p ≡ (seen p || leads place p)) → Searching leads first seen' done'
    search_goes_on place h d e = record {
      all_first = λ p f. still p (s.all_first p f);
      only_led = λ p f. elim (or_cases (seen p) (leads place p) (sym (e p) ∙ f)) [
        | inl k ↦ s.only_led p k
        | inr k ↦ led_on leads first place p (s.only_led place h) k
      ];
      done_lead = λ q p f l. elim (or_cases (done q) (eqb q place && ltb place 64) (sym (d q) ∙ f)) [
        | inl k ↦ still p (s.done_lead q p k l)
        | inr k ↦
            let z : q ≡ place = eqb-true q place (and_parts (eqb q place) (ltb place 64) k).0 in
            e p ∙ or_right (seen p) (leads place p) (subst (λ (u : ℕ). leads u p ≡ true) z l)
      ];
    }
      where
        still : (p : ℕ) → seen p ≡ true → seen' p ≡ true
        still p f = e p ∙ or_left (seen p) (leads place p) f

  -- at the end every place that is seen is done
  pub search_ends : (seen done : ℕ → Bool) → Searching leads first seen done →
      ((p : ℕ) → (seen p && not (done p)) ≡ false) → (p : ℕ) → Decides (seen p) (Led leads first p)
  search_ends seen done s none p = (
    s.only_led p,
    λ l. l seen s.all_first (λ q r h e. s.done_lead q r (all_done q h) e),
  )
    where
      all_done : (q : ℕ) → seen q ≡ true → done q ≡ true
      all_done q h = elim (and_cases (seen q) (not (done q)) (none q)) [
        | inl f ↦ absurd (both_ways (seen q) f h)
        | inr f ↦ not-false (done q) f
      ]
