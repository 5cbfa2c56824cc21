-- What an order that does a tally tells of the tally: where it ends, that no place is short, and
-- that the inputs of the steps are reached.
use Rattle.std.proofs.Common.{◌≡◌, ℕ, ◌+◌, ◌<◌, ◌≤◌, List, [], ◌∷◌, length, sym, refl, ap, subst, inl, inr, arith}
use Rattle.std.proofs.lemmas.Bool.{cases_eq, cases_lt}
use Rattle.theory.specs.Nets.{NetMeaning}
use Rattle.theory.specs.Firing.{Marking, one_at, fired, after, times}
use Rattle.theory.specs.Tallies.{Tally, steps_asked, spent, gained, Realizes, IsReached}
use Rattle.theory.specs.Tallies.IsReached.{marked, through}
use Rattle.theory.specs.Orders.{less}
use Rattle.theory.proofs.SumLaws.{sum_to_none}
use Rattle.theory.proofs.TallySums.{one_tells, one_same, one_other, sum_less, total_less, sum_nothing}

-- no place is short, as an inequality at each place
abbrev pub Enough : NetMeaning → Marking → Tally → Type 0
Enough N m x = (p : ℕ) → p < N.places → spent N x p ≤ m p + gained N x p

-- the input of each step of the tally is reached; this alone decides whether a place is cut off
abbrev pub InputsReached : NetMeaning → Marking → Tally → Type 0
InputsReached N m x = (t : ℕ) → t < N.steps → 0 < x t → IsReached N m x (N.input t)

-- an induction over the places that are reached
pub reached_fold : (N : NetMeaning) (m : Marking) (x : Tally) (P : ℕ → Type 0) →
    ((p : ℕ) → 0 < m p → P p) →
    ((t q : ℕ) → t < N.steps → 0 < x t → P (N.input t) → 0 < N.yields t q → P q) →
    (q : ℕ) → IsReached N m x q → P q
reached_fold N m x P here on q (marked h) = here q h
reached_fold N m x P here on q (through t l h r y) = on t q l h (reached_fold N m x P here on (N.input t) r) y

-- a firing moves blocks as it says: it takes none that is not there
pub fired_is : (N : NetMeaning) (m : Marking) (t p : ℕ) → 0 < m (N.input t) →
    fired N m t p + one_at (N.input t) p ≡ m p + N.yields t p
fired_is N m t p h =
    elim (one_tells (N.input t) p) [
      | inl e ↦ let k : m (N.input t) ≡ m p = ap m e.0 in omega arith
      | inr d ↦ omega arith
    ]

module _ (N : NetMeaning) where
  pub first_counts : (m : Marking) (x : Tally) (t : ℕ) (ts : List ℕ) → Realizes N m x (t ∷ ts) → 0 < x t
  first_counts m x t ts r = omega (arith, r.1 t r.0.0, one_same t t refl)

  pub rest_realizes : (m : Marking) (x : Tally) (t : ℕ) (ts : List ℕ) → Realizes N m x (t ∷ ts) →
      Realizes N (fired N m t) (less x t) ts
  rest_realizes m x t ts r = (r.0.2, λ u l. omega (arith, r.1 u l))

  pub realizes_more : (m : Marking) (x : Tally) (t : ℕ) (ts : List ℕ) → t < N.steps → 0 < x t → 0 < m (N.input t) →
      Realizes N (fired N m t) (less x t) ts → Realizes N m x (t ∷ ts)
  realizes_more m x t ts l h i r =
      ((l, i, r.0), λ u k. more u (r.1 u k))
    where
      more : (u : ℕ) → times ts u ≡ less x t u → one_at t u + times ts u ≡ x u
      more u e =
          elim (one_tells t u) [
            | inl s ↦ let k : x t ≡ x u = ap x s.0 in omega arith
            | inr d ↦ omega arith
          ]

  -- the marking equation
  pub leaves : (m : Marking) (x : Tally) (order : List ℕ) → Realizes N m x order →
      (p : ℕ) → after N m order p + spent N x p ≡ m p + gained N x p
  leaves m x [] r p =
      omega (
        arith,
        sum_nothing x (λ u. one_at (N.input u) p) N.steps (λ u l. sym (r.1 u l)),
        sum_nothing x (λ u. N.yields u p) N.steps (λ u l. sym (r.1 u l)),
      )
  leaves m x (t ∷ ts) r p =
      let h : 0 < x t = first_counts m x t ts r in
      let i = leaves (fired N m t) (less x t) ts (rest_realizes m x t ts r) p in
      let s = sum_less x (λ u. one_at (N.input u) p) t N.steps r.0.0 h in
      let g = sum_less x (λ u. N.yields u p) t N.steps r.0.0 h in
      let f = fired_is N m t p r.0.1 in
      omega arith

  pub length_is : (m : Marking) (x : Tally) (order : List ℕ) → Realizes N m x order → length order ≡ steps_asked N x
  length_is m x [] r = sym (sum_to_none x N.steps (λ u l. sym (r.1 u l)))
  length_is m x (t ∷ ts) r =
      omega (
        arith,
        total_less x t N.steps r.0.0 (first_counts m x t ts r),
        length_is (fired N m t) (less x t) ts (rest_realizes m x t ts r),
      )

  pub realizes_enough : (m : Marking) (x : Tally) (order : List ℕ) → Realizes N m x order → Enough N m x
  realizes_enough m x order r p l = omega (arith, leaves m x order r p)

  -- what is reached after a firing is reached before it
  pub reached_before : (m : Marking) (x : Tally) (t : ℕ) → t < N.steps → 0 < x t → 0 < m (N.input t) →
      (q : ℕ) → IsReached N (fired N m t) (less x t) q → IsReached N m x q
  reached_before m x t l h i =
      reached_fold N (fired N m t) (less x t) (IsReached N m x)
      (λ p k. elim (cases_lt 0 (m p)) [
        | inl a ↦ marked a
        | inr b ↦ through t l h (marked i) (omega arith)
      ])
      (λ u q k j r y. through u k (omega arith) r y)

  pub realizes_reached : (m : Marking) (x : Tally) (order : List ℕ) → Realizes N m x order → InputsReached N m x
  realizes_reached m x [] r t l h = absurd (omega (arith, r.1 t l))
  realizes_reached m x (t ∷ ts) r u l k =
      let c : InputsReached N (fired N m t) (less x t) =
      realizes_reached (fired N m t) (less x t) ts (rest_realizes m x t ts r) in
      elim (cases_eq t u) [
        | inl e ↦ marked (subst (λ (v : ℕ). 0 < m (N.input v)) e r.0.1)
        | inr d ↦
            reached_before m x t r.0.0 (first_counts m x t ts r) r.0.1 (N.input u)
            (c u l (omega (arith, one_other t u d)))
      ]
