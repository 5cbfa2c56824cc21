-- Lists of rising numbers, told element by element.
use Rattle.std.proofs.Common.{◌≡◌, ℕ, zero, suc, ◌+◌, ◌<◌, ◌⊎◌, List, [], ◌∷◌, length, sym, refl, subst, inl, inr, add-one, arith}
use Rattle.std.specs.Prelude.{Contains, slice_index, slice_index_or}
use Rattle.std.specs.List.Sorted.{IsStrictlyIncreasing}

-- p is one of the numbers
abbrev pub Among : ℕ → List ℕ → Type 0
Among p [] = ⊥
Among p (q ∷ qs) = (p ≡ q) ⊎ Among p qs

-- each number is smaller than those that follow it
abbrev pub Rising : List ℕ → Type 0
Rising [] = Unit {0}
Rising (p ∷ ps) = ((q : ℕ) → Among q ps → p < q) × Rising ps

pub among_contains : (p : ℕ) (ps : List ℕ) → Among p ps → Contains ps p
among_contains p [] a = absurd a
among_contains p (q ∷ qs) (inl e) = (zero, omega arith, sym e)
among_contains p (q ∷ qs) (inr a) =
    let c = among_contains p qs a in
    (suc c.0, omega (arith, c.1), c.2)

pub contains_among : (p : ℕ) (ps : List ℕ) → Contains ps p → Among p ps
contains_among p ps c = go ps c.0 c.1 c.2
  where
    go : (qs : List ℕ) (k : ℕ) → k < length qs → slice_index_or qs k p ≡ p → Among p qs
    go [] k l e = absurd (omega (arith, l))
    go (q ∷ qs) zero l e = inl (sym e)
    go (q ∷ qs) (suc k) l e = inr (go qs k (omega (arith, l)) e)

to_suc : (xs : List ℕ) (k : ℕ) → slice_index xs k < slice_index xs (k + 1) → slice_index xs k < slice_index xs (suc k)
to_suc xs k h = subst (λ (j : ℕ). slice_index xs k < slice_index xs j) (add-one k) h

from_suc : (xs : List ℕ) (k : ℕ) → slice_index xs k < slice_index xs (suc k) → slice_index xs k < slice_index xs (k + 1)
from_suc xs k h = subst (λ (j : ℕ). slice_index xs k < slice_index xs j) (sym (add-one k)) h

pub rising_strictly : (ps : List ℕ) → Rising ps → IsStrictlyIncreasing ps
rising_strictly [] r k l = absurd (omega (arith, l))
rising_strictly (p ∷ []) r k l = absurd (omega (arith, l))
rising_strictly (p ∷ q ∷ qs) r zero l = from_suc (p ∷ q ∷ qs) zero (r.0 q (inl refl))
rising_strictly (p ∷ q ∷ qs) r (suc k) l =
    from_suc (p ∷ q ∷ qs) (suc k) (to_suc (q ∷ qs) k (rising_strictly (q ∷ qs) r.1 k (omega (arith, l))))

-- what is below the first of a rising list is below all
below_all : (p q : ℕ) (qs : List ℕ) → p < q → Rising (q ∷ qs) → (k : ℕ) → Among k (q ∷ qs) → p < k
below_all p q qs h r k (inl e) = omega (arith, h, e)
below_all p q qs h r k (inr a) = omega (arith, h, r.0 k a)

pub strictly_rising : (ps : List ℕ) → IsStrictlyIncreasing ps → Rising ps
strictly_rising [] s = tt
strictly_rising (p ∷ []) s = (λ q a. absurd a, tt)
strictly_rising (p ∷ q ∷ qs) s =
    let rest = strictly_rising (q ∷ qs) (λ k l.
    from_suc (q ∷ qs) k (to_suc (p ∷ q ∷ qs) (suc k) (s (suc k) (omega (arith, l))))) in
    (below_all p q qs (to_suc (p ∷ q ∷ qs) zero (s zero (omega arith))) rest, rest)
