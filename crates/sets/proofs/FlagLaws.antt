-- What is in a set after each operation on its word.
use Rattle.std.proofs.Common.{◌≡◌, ℕ, zero, suc, ◌-◌, ◌*◌, ◌/◌, ◌%◌, ◌^◌, ◌<◌, ◌≤◌, min, max, Bool, true, false, not, ◌&&◌, ◌||◌, eqb, ltb, bit_and, bit_or, Some, None, Option, is_some, IfSome, MatchOption, Decides, sym, refl, ap, ◌∙◌, subst, inl, inr, arith, pow_pos, pow_mono}
use mir.Val.{bits}
use lib.Bits.{or_add_and, and_le_l}
use Rattle.std.proofs.lemmas.Bool.{cases_eq, cases_lt, both_ways, eq-eqb, ne_eqb, eqb-false, lt-ltb, eqb-true, and_parts, and_from, and_left, and_right, not-true, not-false}
use Rattle.std.proofs.lemmas.Nat.{div_below, one_shl}
use Rattle.std.proofs.lemmas.Nat.Bits.{bit_at_and, bit_at_or, bit_at_not, bit_at-lt, bit_at-zero, and_pow, bit_at_set_same, bit_at_set_other, bit_at-trailing_zeros}
use Rattle.std.specs.Int.{Width, bit_at, trailing_zeros}
use Rattle.theory.proofs.Decided.{least_found, none_found}
use Rattle.theory.specs.Laws.{IsLeast}
use Rattle.sets.specs.Flags.{has, first_in, IsEmpty}

-- SETS

or_flag : (d e : ℕ) → d < 2 → e < 2 → eqb (max d e) 1 ≡ (eqb d 1 || eqb e 1)
or_flag zero zero l k = refl
or_flag zero (suc zero) l k = refl
or_flag (suc zero) zero l k = refl
or_flag (suc zero) (suc zero) l k = refl
or_flag (suc (suc d)) e l k = absurd (omega arith)
or_flag zero (suc (suc e)) l k = absurd (omega arith)
or_flag (suc zero) (suc (suc e)) l k = absurd (omega arith)

minus_flag : (d e : ℕ) → d < 2 → e < 2 → eqb (min d (1 - e)) 1 ≡ (eqb d 1 && not (eqb e 1))
minus_flag zero zero l k = refl
minus_flag zero (suc zero) l k = refl
minus_flag (suc zero) zero l k = refl
minus_flag (suc zero) (suc zero) l k = refl
minus_flag (suc (suc d)) e l k = absurd (omega arith)
minus_flag zero (suc (suc e)) l k = absurd (omega arith)
minus_flag (suc zero) (suc (suc e)) l k = absurd (omega arith)

and_flag : (d e : ℕ) → d < 2 → e < 2 → eqb (min d e) 1 ≡ (eqb d 1 && eqb e 1)
and_flag zero zero l k = refl
and_flag zero (suc zero) l k = refl
and_flag (suc zero) zero l k = refl
and_flag (suc zero) (suc zero) l k = refl
and_flag (suc (suc d)) e l k = absurd (omega arith)
and_flag zero (suc (suc e)) l k = absurd (omega arith)
and_flag (suc zero) (suc (suc e)) l k = absurd (omega arith)

pub has_and : (a b p : ℕ) → has (bit_and a b) p ≡ (has a p && has b p)
unfolding has
has_and a b p =
    ap (λ (d : ℕ). eqb d 1) (bit_at_and a b p) ∙ and_flag (bit_at a p) (bit_at b p) (bit_at-lt a p) (bit_at-lt b p)

pub has_union : (a b p : ℕ) → has (bit_or a b) p ≡ (has a p || has b p)
unfolding has
has_union a b p =
    ap (λ (d : ℕ). eqb d 1) (bit_at_or a b p) ∙ or_flag (bit_at a p) (bit_at b p) (bit_at-lt a p) (bit_at-lt b p)

-- nothing is in the set of a number from its number of digits on
pub has_above : (w k p : ℕ) → w < 2 ^ k → k ≤ p → has w p ≡ false
unfolding has
has_above w k p l h =
    let q : w / 2 ^ p < 1 = div_below w (2 ^ p) 1 (pow_pos p) (omega (arith, pow_mono h)) in
    ne_eqb (w / 2 ^ p % 2) 1 (λ e. omega arith)

pub minus_above : (n a b p : ℕ) → a < 2 ^ n → n ≤ p → has (bit_and a (2 ^ n - 1 - b)) p ≡ false
minus_above n a b p l h = has_above (bit_and a (2 ^ n - 1 - b)) n p (omega (arith, and_le_l a (2 ^ n - 1 - b))) h

pub has_minus : (t : Width) (a b p : ℕ) → a < 2 ^ bits t → b < 2 ^ bits t → has (bit_and a (2 ^ bits t - 1 - b)) p ≡ (has a p && not (has b p))
unfolding has
has_minus t a b p l k = elim (cases_lt p (bits t)) [
  | inl h ↦
      ap (λ (d : ℕ). eqb d 1) (bit_at_and a (2 ^ bits t - 1 - b) p ∙ ap (λ (d : ℕ). min (bit_at a p) d) (bit_at_not t b p k h))
      ∙ minus_flag (bit_at a p) (bit_at b p) (bit_at-lt a p) (bit_at-lt b p)
  | inr h ↦
      minus_above (bits t) a b p l h
      ∙ sym (and_left (has a p) (not (has b p)) (has_above a (bits t) p l h))
]

pub has_none : (p : ℕ) → has 0 p ≡ false
unfolding has
has_none p = ap (λ (d : ℕ). eqb d 1) (bit_at-zero p)

-- ONE PLACE MORE

or_same : (a b c : Bool) → b ≡ true → c ≡ true → true ≡ (a || (b && c))
or_same true b c e f = refl
or_same false true true e f = refl
or_same false true false e f = sym f
or_same false false c e f = sym e

or_other : (a b c : Bool) → b ≡ false → a ≡ (a || (b && c))
or_other true b c e = refl
or_other false false c e = refl
or_other false true c e = sym (ap (λ (v : Bool). v && c) e)

pub has_with : (t : Width) (w k p : ℕ) → k < bits t → has (bit_or w ((1 * 2 ^ k) % 2 ^ bits t)) p ≡ (has w p || (eqb p k && ltb k (bits t)))
unfolding has
has_with t w k p l = elim (cases_eq p k) [
  | inl e ↦
      subst (λ (j : ℕ). eqb (bit_at (bit_or w ((1 * 2 ^ k) % 2 ^ bits t)) j) 1 ≡ (eqb (bit_at w j) 1 || (eqb j k && ltb k (bits t)))) (sym e)
      (ap (λ (d : ℕ). eqb d 1) (bit_at_set_same t w k l) ∙ or_same (eqb (bit_at w k) 1) (eqb k k) (ltb k (bits t)) (eq-eqb k k refl) (lt-ltb k (bits t) l))
  | inr d ↦
      ap (λ (v : ℕ). eqb v 1) (bit_at_set_other t w k l p d)
      ∙ or_other (eqb (bit_at w p) 1) (eqb p k) (ltb k (bits t)) (ne_eqb p k d)
]

-- a set with one place more is a greater number
pub with_greater : (n w k : ℕ) → k < n → has w k ≡ false → w < bit_or w ((1 * 2 ^ k) % 2 ^ n)
unfolding has
with_greater n w k l h =
    let off : bit_at w k ≡ 1 → ⊥ = eqb-false (bit_at w k) 1 h in
    let zero_there : bit_at w k ≡ 0 = omega (arith, bit_at-lt w k) in
    let none : bit_and w (2 ^ k) ≡ 0 = and_pow w k ∙ (ap (λ (d : ℕ). d * 2 ^ k) zero_there ∙ omega arith) in
    subst (λ (v : ℕ). w < bit_or w v) (sym (one_shl k n l)) (omega (arith, or_add_and w (2 ^ k), pow_pos k))

-- THE FIRST PLACE

-- the lowest digit of a number that is not 0
pub first_flag : (t : Width) (w : ℕ) → w < 2 ^ bits t → 0 < w →
    (trailing_zeros t w < bits t) × (has w (trailing_zeros t w) ≡ true) × ((p : ℕ) → p < trailing_zeros t w → has w p ≡ false)
unfolding has
first_flag t w l h =
    let f = bit_at-trailing_zeros t w h l in (
      f.0,
      eq-eqb (bit_at w (trailing_zeros t w)) 1 f.1,
      λ p k. ne_eqb (bit_at w p) 1 (λ e. omega (arith, f.2 p k)),
    )

-- a number none of whose digits is set is 0
pub none_zero : (t : Width) (w : ℕ) → w < 2 ^ bits t → IsEmpty w → w ≡ 0
none_zero t w l none = elim (cases_lt 0 w) [
  | inl h ↦ absurd (both_ways (has w (trailing_zeros t w)) (none (trailing_zeros t w)) (first_flag t w l h).1)
  | inr h ↦ omega arith
]

-- a word is 0 where its set is empty
pub zero_empty : (t : Width) (w : ℕ) → w < 2 ^ bits t → Decides (eqb w 0) (IsEmpty w)
zero_empty t w l = (
  λ e p. ap (λ (v : ℕ). has v p) (eqb-true w 0 e) ∙ has_none p,
  λ none. eq-eqb w 0 (none_zero t w l none),
)

-- words have a digit in common where both sets have a place
pub and_meets : (t : Width) (a b : ℕ) → a < 2 ^ bits t → Decides (not (eqb (bit_and a b) 0)) ((p : ℕ) × (has a p ≡ true) × (has b p ≡ true))
and_meets t a b l = (
  λ e.
      let some : 0 < bit_and a b = omega (arith, eqb-false (bit_and a b) 0 (not-true (eqb (bit_and a b) 0) e)) in
      let p = trailing_zeros t (bit_and a b) in
      let both = and_parts (has a p) (has b p) (sym (has_and a b p) ∙ (first_flag t (bit_and a b) (omega (arith, and_le_l a b)) some).1) in
      (p, both.0, both.1),
  λ common.
      ap not (ne_eqb (bit_and a b) 0 (λ e. both_ways (has 0 common.0) (has_none common.0)
      (ap (λ (v : ℕ). has v common.0) (sym e) ∙ (has_and a b common.0 ∙ and_from (has a common.0) (has b common.0) common.1 common.2)))),
)

-- a set without one place, as the set less that place alone; a place from n on is in no set of n
pub without_flag : (n w v u m p k : ℕ) → IsEmpty m → has v p ≡ (has m p || (eqb p k && ltb k n)) →
    has u p ≡ (has w p && not (has v p)) → (n ≤ p → has u p ≡ false) → has u p ≡ (has w p && not (eqb p k))
without_flag n w v u m p k none one left above = elim (cases_eq p k) [
  | inl e ↦ elim (cases_lt p n) [
    | inl b ↦ left ∙ ap (λ (f : Bool). has w p && not f) (or_there e (lt-ltb k n (omega arith)) ∙ sym (eq-eqb p k e))
    | inr a ↦ above a ∙ sym (and_right (has w p) (not (eqb p k)) (ap not (eq-eqb p k e)))
  ]
  | inr d ↦ left ∙ ap (λ (f : Bool). has w p && not f) (one ∙ ap (λ (f : Bool). f || (eqb p k && ltb k n)) (none p) ∙ (and_left (eqb p k) (ltb k n) (ne_eqb p k d) ∙ sym (ne_eqb p k d)))
]
  where
    or_there : p ≡ k → ltb k n ≡ true → has v p ≡ true
    or_there e t = one ∙ ap (λ (f : Bool). f || (eqb p k && ltb k n)) (none p) ∙ (ap (λ (f : Bool). f && ltb k n) (eq-eqb p k e) ∙ t)

-- the first place of a set, as the number of zeros below it
pub first_is : (t : Width) (w : ℕ) → w < 2 ^ bits t → (e : Bool) → Decides e (IsEmpty w) → (r : Option ℕ) → is_some r ≡ not e →
    IfSome r (λ z. z ≡ trailing_zeros t w) → (r ≡ first_in (bits t) w) × MatchOption r (IsEmpty w) (IsLeast (has w) (bits t))
unfolding first_in
first_is t w l e d None s z =
    let none = d.0 (not-false e (sym s)) in
    (sym ((none_found (has w) (bits t)).1 (λ k _. none k)), none)
first_is t w l e d (Some p) s z =
    let some : 0 < w = elim (cases_lt 0 w) [
      | inl h ↦ h
      | inr h ↦ absurd (both_ways e (not-true e (sym s)) (d.1 (λ p. ap (λ (v : ℕ). has v p) (omega arith) ∙ has_none p)))
    ] in
    let f = first_flag t w l some in
    let at : p ≡ trailing_zeros t w = z in
    let i : IsLeast (has w) (bits t) p =
    subst (IsLeast (has w) (bits t)) (sym at) (record { inside = f.0; passes = f.1; least = f.2 }) in
    (sym ((least_found (has w) (bits t) p).1 i), i)
