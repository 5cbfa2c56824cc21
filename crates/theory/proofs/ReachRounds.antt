-- As many rounds as there are places find every place that is reached: a round that adds no place
-- leaves a closed set, and any other raises the number of places found.
use Rattle.std.proofs.Common.{◌≡◌, ℕ, zero, suc, ◌<◌, ◌≤◌, Bool, true, false, cond, ◌&&◌, ltb, ◌⊎◌, Decides, refl, subst, inl, inr, arith}
use Rattle.std.proofs.lemmas.Bool.{cases_eq, cases_Bool, ltb-true, lt-ltb, or_cases, or_left, or_right, and_parts, and_from, both_ways, cond-true, cond-false}
use Rattle.theory.specs.Sums.{sum_to}
use Rattle.theory.specs.Nets.{NetMeaning, InputsInside}
use Rattle.theory.specs.Firing.{Marking}
use Rattle.theory.specs.Tallies.{Tally, IsReached}
use Rattle.theory.specs.Tallies.IsReached.{marked, through}
use Rattle.theory.specs.Tests.{any_below, reach, is_reached}
use Rattle.theory.proofs.Realized.{reached_fold}

pub any_find : (b : ℕ → Bool) (n : ℕ) → any_below b n ≡ true → (t : ℕ) × (t < n) × (b t ≡ true)
any_find b zero h = absurd (both_ways false refl h)
any_find b (suc n) h =
    elim (or_cases (b n) (any_below b n) h) [
      | inl e ↦ (n, omega arith, e)
      | inr e ↦ let w = any_find b n e in (w.0, omega arith, w.2)
    ]

pub any_from : (b : ℕ → Bool) (t n : ℕ) → t < n → b t ≡ true → any_below b n ≡ true
any_from b t zero l h = absurd (omega arith)
any_from b t (suc n) l h =
    elim (cases_eq t n) [
      | inl e ↦ or_left (b n) (any_below b n) (subst (λ (u : ℕ). b u ≡ true) e h)
      | inr d ↦ or_right (b n) (any_below b n) (any_from b t n (omega arith) h)
    ]

abbrev bit : Bool → ℕ
bit b = cond b 1 0

bit_true : (b : Bool) → b ≡ true → bit b ≡ 1
bit_true b e = cond-true b 1 0 e

bit_false : (b : Bool) → b ≡ false → bit b ≡ 0
bit_false b e = cond-false b 1 0 e

-- how many numbers below n pass
abbrev count : (ℕ → Bool) → ℕ → ℕ
count b n = sum_to (λ p. bit (b p)) n

count_below : (b : ℕ → Bool) (n : ℕ) → count b n ≤ n
unfolding sum_to
count_below b zero = omega arith
count_below b (suc n) =
    elim (cases_Bool (b n)) [
      | inl e ↦ omega (arith, bit_true (b n) e, count_below b n)
      | inr e ↦ omega (arith, bit_false (b n) e, count_below b n)
    ]

-- all pass where as many pass as there are
count_full : (b : ℕ → Bool) (n : ℕ) → n ≤ count b n → (p : ℕ) → p < n → b p ≡ true
unfolding sum_to
count_full b zero h p l = absurd (omega arith)
count_full b (suc n) h p l =
    elim (cases_Bool (b n)) [
      | inl e ↦
          elim (cases_eq n p) [
            | inl s ↦ subst (λ (u : ℕ). b u ≡ true) s e
            | inr d ↦ count_full b n (omega (arith, bit_true (b n) e)) p (omega arith)
          ]
      | inr e ↦ absurd (omega (arith, bit_false (b n) e, count_below b n))
    ]

-- what passes b below n passes a
abbrev Within : (ℕ → Bool) → (ℕ → Bool) → ℕ → Type 0
Within a b n = (p : ℕ) → p < n → b p ≡ true → a p ≡ true

-- of two tests, one weaker than the other, the weaker one lets more pass, or they are the same
count_more : (a b : ℕ → Bool) (n : ℕ) → ((p : ℕ) → a p ≡ true → b p ≡ true) →
    (count a n ≤ count b n) × (Within a b n ⊎ (count a n < count b n))
unfolding sum_to
count_more a b zero up = (omega arith, inl (λ p l _. absurd (omega arith)))
count_more a b (suc n) up =
    let ih = count_more a b n up in
    elim (cases_Bool (a n)) [
      | inl e ↦
          let ca = bit_true (a n) e in
          let cb = bit_true (b n) (up n e) in (
            omega arith,
            elim ih.1 [
              | inl s ↦ inl (λ p l h. elim (cases_eq n p) [
                | inl q ↦ subst (λ (u : ℕ). a u ≡ true) q e
                | inr d ↦ s p (omega arith) h
              ])
              | inr k ↦ inr (omega arith)
            ],
          )
      | inr e ↦
          let ca = bit_false (a n) e in
          elim (cases_Bool (b n)) [
            | inl f ↦ let cb = bit_true (b n) f in (omega arith, inr (omega arith))
            | inr f ↦
                let cb = bit_false (b n) f in (
                  omega arith,
                  elim ih.1 [
                    | inl s ↦ inl (λ p l h. elim (cases_eq p n) [
                      | inl q ↦ absurd (both_ways (b n) f (subst (λ (u : ℕ). b u ≡ true) q h))
                      | inr d ↦ s p (omega arith) h
                    ])
                    | inr k ↦ inr (omega arith)
                  ],
                )
          ]
    ]

-- no step of the tally leads out of r
abbrev pub Closed : NetMeaning → Tally → (ℕ → Bool) → Type 0
Closed N x r =
    (t q : ℕ) → t < N.steps → 0 < x t → r (N.input t) ≡ true → q < N.places → 0 < N.yields t q → r q ≡ true

-- a closed set that has the marked places has every place that is reached
pub closed_reached : (N : NetMeaning) → InputsInside N → (m : Marking) (x : Tally) (r : ℕ → Bool) →
    ((p : ℕ) → p < N.places → 0 < m p → r p ≡ true) → Closed N x r →
    (q : ℕ) → IsReached N m x q → q < N.places → r q ≡ true
closed_reached N inside m x r start closed =
    reached_fold N m x (λ q. q < N.places → r q ≡ true)
    (λ p h l. start p l h)
    (λ t q l h i y k. closed t q l h (i (inside t l)) k y)

module _ (N : NetMeaning) (m : Marking) (x : Tally) where
  -- a step of the tally from a place found in k rounds yields at p
  abbrev leads : ℕ → ℕ → ℕ → Bool
  leads k p t = ltb 0 (x t) && (ltb 0 (N.yields t p) && reach N m x k (N.input t))

  pub reach_sound : (k p : ℕ) → reach N m x k p ≡ true → IsReached N m x p
  reach_sound zero p h = marked (ltb-true 0 (m p) h)
  reach_sound (suc k) p h =
      elim (or_cases (reach N m x k p) (any_below (leads k p) N.steps) h) [
        | inl e ↦ reach_sound k p e
        | inr e ↦
            let w = any_find (leads k p) N.steps e in
            let t : ℕ = w.0 in
            let a = and_parts (ltb 0 (x t)) (ltb 0 (N.yields t p) && reach N m x k (N.input t)) w.2 in
            let c = and_parts (ltb 0 (N.yields t p)) (reach N m x k (N.input t)) a.1 in
            through t w.1 (ltb-true 0 (x t) a.0) (reach_sound k (N.input t) c.1) (ltb-true 0 (N.yields t p) c.0)
      ]

  up : (k p : ℕ) → reach N m x k p ≡ true → reach N m x (suc k) p ≡ true
  up k p h = or_left (reach N m x k p) (any_below (leads k p) N.steps) h

  ups : (j k p : ℕ) → j ≤ k → reach N m x j p ≡ true → reach N m x k p ≡ true
  ups j zero p l h = subst (λ (i : ℕ). reach N m x i p ≡ true) e h
    where
      e : j ≡ zero
      e = omega arith
  ups j (suc k) p l h =
      elim (cases_eq j (suc k)) [
        | inl e ↦ subst (λ (i : ℕ). reach N m x i p ≡ true) e h
        | inr d ↦ up k p (ups j k p (omega arith) h)
      ]

  same_closed : (k : ℕ) → Within (reach N m x k) (reach N m x (suc k)) N.places → Closed N x (reach N m x k)
  same_closed k s t q l h r lq y =
      s q lq (or_right (reach N m x k q) (any_below (leads k q) N.steps)
      (any_from (leads k q) t N.steps l
      (and_from (ltb 0 (x t)) (ltb 0 (N.yields t q) && reach N m x k (N.input t)) (lt-ltb 0 (x t) h)
      (and_from (ltb 0 (N.yields t q)) (reach N m x k (N.input t)) (lt-ltb 0 (N.yields t q) y) r))))

  -- after k rounds: some round added nothing, or there are k places
  rounds : (k : ℕ) →
      ((j : ℕ) × (j ≤ k) × Within (reach N m x j) (reach N m x (suc j)) N.places) ⊎ (k ≤ count (reach N m x k) N.places)
  rounds zero = inr (omega arith)
  rounds (suc k) =
      elim (rounds k) [
        | inl w ↦ inl (w.0, omega arith, w.2)
        | inr h ↦
            elim (count_more (reach N m x k) (reach N m x (suc k)) N.places (up k)).1 [
              | inl s ↦ inl (k, omega arith, s)
              | inr l ↦ inr (omega arith)
            ]
      ]

  reach_all : InputsInside N → (q : ℕ) → q < N.places → IsReached N m x q → is_reached N m x q ≡ true
  reach_all inside q l h =
      elim (rounds N.places) [
        | inl w ↦
            ups w.0 N.places q w.1
            (closed_reached N inside m x (reach N m x w.0)
            (λ p _ k. ups 0 w.0 p (omega arith) (lt-ltb 0 (m p) k))
            (same_closed w.0 w.2) q h l)
        | inr full ↦ count_full (reach N m x N.places) N.places full q l
      ]

pub reached_decided : (N : NetMeaning) → InputsInside N → (m : Marking) (x : Tally) (p : ℕ) → p < N.places →
    Decides (is_reached N m x p) (IsReached N m x p)
reached_decided N inside m x p l = (reach_sound N m x N.places p, reach_all N m x inside p l)
