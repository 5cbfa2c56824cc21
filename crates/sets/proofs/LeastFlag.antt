-- A word less its lowest digit that is 1, as `w & (w - 1)`.
use Rattle.std.proofs.Common.{◌≡◌, ℕ, zero, suc, ◌-◌, ◌/◌, ◌%◌, ◌<◌, Bool, true, false, not, ◌&&◌, eqb, bit_and, refl, sym, ap, ◌∙◌, subst, inl, inr, arith}
use Rattle.std.proofs.lemmas.Bool.{cases_eq, cases_lt, eq-eqb, eqb-true, eqb-false, ne_eqb, and_left, and_right, both_ways}
use Rattle.std.proofs.lemmas.Nat.Bits.{bit_at_lowest, bit_at-suc, bit_at-lt}
use Rattle.std.specs.Int.{bit_at}
use Rattle.theory.specs.Laws.{IsLeast}
use Rattle.sets.specs.Flags.{has, IsEmpty}
use Rattle.sets.proofs.FlagLaws.{has_and, has_none}

-- an even number less 1 has the half less 1, and an odd one has its half
half_even : (w : ℕ) → w % 2 ≡ 0 → (w - 1) / 2 ≡ w / 2 - 1
half_even w e = omega arith

half_odd : (w : ℕ) → w % 2 ≡ 1 → (w - 1) / 2 ≡ w / 2
half_odd w e = omega arith

-- above its lowest 1 a number has the digits that it has less 1
digit_above : (z w t : ℕ) → bit_at w z ≡ 1 → ((i : ℕ) → i < z → bit_at w i ≡ 0) → z < t → bit_at (w - 1) t ≡ bit_at w t
digit_above z w zero one none l = absurd (omega arith)
digit_above zero w (suc t) one none l =
    bit_at-suc (w - 1) t
    ∙ (ap (λ (v : ℕ). bit_at v t) (half_odd w (sym (bit_at_lowest w) ∙ one)) ∙ sym (bit_at-suc w t))
digit_above (suc z) w (suc t) one none l =
    bit_at-suc (w - 1) t
    ∙ (ap (λ (v : ℕ). bit_at v t) (half_even w (sym (bit_at_lowest w) ∙ none 0 (omega arith)))
    ∙ (digit_above z (w / 2) t (sym (bit_at-suc w z) ∙ one) (λ i k. sym (bit_at-suc w i) ∙ none (suc i) (omega arith)) (omega arith)
    ∙ sym (bit_at-suc w t)))

-- at its lowest 1 a number less 1 has 0
digit_there : (z w : ℕ) → bit_at w z ≡ 1 → ((i : ℕ) → i < z → bit_at w i ≡ 0) → bit_at (w - 1) z ≡ 0
digit_there zero w one none = omega (arith, bit_at_lowest (w - 1), bit_at_lowest w)
digit_there (suc z) w one none =
    bit_at-suc (w - 1) z
    ∙ (ap (λ (v : ℕ). bit_at v z) (half_even w (sym (bit_at_lowest w) ∙ none 0 (omega arith)))
    ∙ digit_there z (w / 2) (sym (bit_at-suc w z) ∙ one) (λ i k. sym (bit_at-suc w i) ∙ none (suc i) (omega arith)))

zero_digit : (w i : ℕ) → has w i ≡ false → bit_at w i ≡ 0
unfolding has
zero_digit w i h = let off : bit_at w i ≡ 1 → ⊥ = eqb-false (bit_at w i) 1 h in omega (arith, bit_at-lt w i)

-- the word and the word less 1 have the digits of the word in common, but the lowest 1
pub has_less : (w k : ℕ) → has w k ≡ true → ((q : ℕ) → q < k → has w q ≡ false) → (t : ℕ) → has (bit_and w (w - 1)) t ≡ (has w t && not (eqb t k))
unfolding has
has_less w k in_it least t = elim (cases_eq t k) [
  | inl e ↦
      has_and w (w - 1) t
      ∙ (and_right (has w t) (has (w - 1) t) (subst (λ (j : ℕ). has (w - 1) j ≡ false) (sym e) there)
      ∙ sym (and_right (has w t) (not (eqb t k)) (ap not (eq-eqb t k e))))
  | inr d ↦ elim (cases_lt t k) [
    | inl l ↦
        has_and w (w - 1) t
        ∙ (and_left (has w t) (has (w - 1) t) (least t l) ∙ sym (and_left (has w t) (not (eqb t k)) (least t l)))
    | inr g ↦
        has_and w (w - 1) t
        ∙ (ap (λ (v : Bool). has w t && v) (ap (λ (v : ℕ). eqb v 1) (digit_above k w t one none (omega arith)))
        ∙ twice (has w t) (not (eqb t k)) (ap not (ne_eqb t k d)))
  ]
]
  where
    one : bit_at w k ≡ 1
    one = eqb-true (bit_at w k) 1 in_it

    none : (i : ℕ) → i < k → bit_at w i ≡ 0
    none i l = zero_digit w i (least i l)

    there : has (w - 1) k ≡ false
    there = ap (λ (v : ℕ). eqb v 1) (digit_there k w one none)

    twice : (a b : Bool) → b ≡ true → (a && a) ≡ (a && b)
    twice true b e = sym e
    twice false b e = refl

-- a word in whose set there is a place is not 0
pub some_not_zero : (w k : ℕ) → has w k ≡ true → 0 < w
some_not_zero w k h = elim (cases_lt 0 w) [
  | inl l ↦ l
  | inr z ↦ absurd (both_ways (has 0 k) (has_none k) (subst (λ (v : ℕ). has v k ≡ true) (omega arith) h))
]

-- a set without its first place, where u is the word less 1
pub less_first : (n w u k : ℕ) → (0 < w → u ≡ w - 1) → IsLeast (has w) n k → (t : ℕ) → has (bit_and w u) t ≡ (has w t && not (eqb t k))
less_first n w u k less first t =
    ap (λ (v : ℕ). has (bit_and w v) t) (less (some_not_zero w k first.passes)) ∙ has_less w k first.passes first.least t

-- nothing is in a word and an empty one
pub none_in_both : (w u : ℕ) → IsEmpty w → IsEmpty (bit_and w u)
none_in_both w u none p = has_and w u p ∙ and_left (has w p) (has u p) (none p)
