-- Tests of numbers: what each says where it is passed, and where it fails.
use Rattle.std.proofs.Common.{◌≡◌, ℕ, ◌<◌, ◌≤◌, Bool, true, false, not, ◌||◌, eqb, ltb, refl, ap, inl, inr, arith}
use Rattle.std.proofs.lemmas.Bool.Decides.{nat_tests}
use Rattle.formats.specs.Reasons.{NoPlaces, SomePlaces}

pub not_below : (n k : ℕ) → ltb n k ≡ false → k ≤ n
not_below n k e = grind (arith, nat_tests)

pub is_below : (n k : ℕ) → ltb n k ≡ true → n < k
is_below n k e = grind (arith, nat_tests)

pub not_below_is : (n k : ℕ) → k ≤ n → ltb n k ≡ false
not_below_is n k h = grind (arith, nat_tests)

pub below_is : (n k : ℕ) → n < k → ltb n k ≡ true
below_is n k h = grind (arith, nat_tests)

pub places_right : (n : ℕ) → (eqb n 0 || ltb 64 n) ≡ false → SomePlaces n
places_right n e = (grind (arith, nat_tests), grind (arith, nat_tests))

pub right_places : (n : ℕ) → SomePlaces n → (eqb n 0 || ltb 64 n) ≡ false
right_places n h = let a : 1 ≤ n = h.0 in let b : n ≤ 64 = h.1 in grind (arith, nat_tests)

pub places_wrong : (n : ℕ) → (eqb n 0 || ltb 64 n) ≡ true → NoPlaces n
places_wrong n e = go (eqb n 0) refl e
  where
    go : (v : Bool) → eqb n 0 ≡ v → (v || ltb 64 n) ≡ true → NoPlaces n
    go true z w = inl (grind (arith, nat_tests))
    go false z w = inr (is_below 64 n w)

pub wrong_places : (n : ℕ) → NoPlaces n → (eqb n 0 || ltb 64 n) ≡ true
wrong_places n (inl z) = grind (arith, nat_tests)
wrong_places n (inr z) = grind (arith, nat_tests)

pub length_is : (a b : ℕ) → not (eqb a b) ≡ false → a ≡ b
length_is a b e = grind (arith, nat_tests)

pub is_length : (a b : ℕ) → a ≡ b → not (eqb a b) ≡ false
is_length a b e = grind (arith, nat_tests)

pub length_not : (a b : ℕ) → not (eqb a b) ≡ true → a ≡ b → ⊥
length_not a b e z = grind (arith, nat_tests)

pub not_length : (a b : ℕ) → (a ≡ b → ⊥) → not (eqb a b) ≡ true
not_length a b h = go (eqb a b) refl
  where
    go : (v : Bool) → eqb a b ≡ v → not (eqb a b) ≡ true
    go true e = absurd (h (grind (arith, nat_tests)))
    go false e = ap not e
