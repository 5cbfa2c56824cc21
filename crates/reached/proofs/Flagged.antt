-- Tests that a loop builds up, one number after the other.
use Rattle.std.proofs.Common.{◌≡◌, ℕ, zero, suc, ◌+◌, ◌<◌, ◌≤◌, Bool, true, false, eqb, ◌&&◌, ◌||◌, ltb, sym, refl, ap, ◌∙◌, inl, inr, add-one, arith}
use Rattle.std.proofs.lemmas.Bool.{cases_lt, cases_eq, both_ways, lt-ltb, le-ltb, eq-eqb, ne_eqb}
use Rattle.std.proofs.lemmas.Bool.Decides.{nat_tests}
use Rattle.theory.specs.Tests.{any_below}

-- PLACES BELOW AN END THAT IS AT MOST 64

pub below_end : (n p : ℕ) (v : Bool) → n ≤ 64 → (ltb p n && (ltb p 64 && v)) ≡ (ltb p n && v)
below_end n p v few = elim (cases_lt p n) [
  | inl l ↦ ap (λ (z : Bool). ltb p n && (z && v)) (lt-ltb p 64 (omega arith))
  | inr k ↦ ap (λ (z : Bool). z && (ltb p 64 && v)) (le-ltb p n k) ∙ sym (ap (λ (z : Bool). z && v) (le-ltb p n k))
]

-- SOME NUMBER BELOW n PASSES

pub any_more : (b : ℕ → Bool) (n : ℕ) → any_below b (n + 1) ≡ (b n || any_below b n)
any_more b n = rw add-one refl

or_swap : (v w : Bool) → (v || w) ≡ (w || v)
or_swap true true = refl
or_swap true false = refl
or_swap false true = refl
or_swap false false = refl

pub or_regroup : (u v w : Bool) → ((u || v) || w) ≡ (u || (v || w))
or_regroup true v w = refl
or_regroup false v w = refl

pub any_joined : (b : ℕ → Bool) (n : ℕ) (have more : Bool) → have ≡ any_below b n → more ≡ b n → (have || more) ≡ any_below b (n + 1)
any_joined b n have more h e =
    ap (λ (v : Bool). v || more) h ∙ ap (λ (v : Bool). any_below b n || v) e ∙ or_swap (any_below b n) (b n) ∙ sym (any_more b n)

pub any_passed_over : (b : ℕ → Bool) (n : ℕ) (have : Bool) → have ≡ any_below b n → b n ≡ false → have ≡ any_below b (n + 1)
any_passed_over b n have h e = h ∙ sym (ap (λ (v : Bool). v || any_below b n) e) ∙ sym (any_more b n)

-- two tests that agree below n
pub any_alike : (a b : ℕ → Bool) (n : ℕ) → ((t : ℕ) → t < n → a t ≡ b t) → any_below a n ≡ any_below b n
any_alike a b zero h = refl
any_alike a b (suc n) h =
    ap (λ (v : Bool). v || any_below a n) (h n (omega arith))
    ∙ ap (λ (v : Bool). b n || v) (any_alike a b n (λ t l. h t (omega arith)))

-- a condition that is met, or fails
pub met_and : (v w : Bool) → v ≡ true → (v && w) ≡ w
met_and true w e = refl
met_and false w e = absurd (both_ways false refl e)

pub same_eqb : (p q : ℕ) → eqb p q ≡ eqb q p
same_eqb p q = elim (cases_eq p q) [
  | inl e ↦ eq-eqb p q e ∙ sym (eq-eqb q p (sym e))
  | inr d ↦ ne_eqb p q d ∙ sym (ne_eqb q p (λ e. d (sym e)))
]

-- what holds below n, and what holds at n
pub row_more : (b : ℕ → Bool) (q n : ℕ) → ((ltb q n && b q) || (b n && eqb q n)) ≡ (ltb q (n + 1) && b q)
row_more b q n = grind (arith, nat_tests)
