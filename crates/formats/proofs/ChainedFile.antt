-- A net as a chained file: how many arcs each step has, and where each number of the file stands.
use Rattle.std.proofs.Common.{◌≡◌, ℕ, zero, suc, ◌+◌, ◌-◌, ◌*◌, ◌/◌, ◌%◌, ◌<◌, ◌≤◌, cond, ltb, [], ◌∷◌, ◌++◌, length, get_or, sym, ap, ◌∙◌, subst, inl, inr, arith, length-append}
use Rattle.std.proofs.lemmas.List.{get_or_append_left, get_or-append_right, get_or-append-add}
use Rattle.std.proofs.lemmas.Bool.{cases_lt, cases_eq, cond-true, cond-false, lt-ltb, le-ltb}
use Rattle.theory.specs.Nets.{NetMeaning}
use Rattle.formats.specs.Chained.{chained_arcs, chained_input, first_arc, arc_place, arc_weight, arc_next}
use Rattle.formats.specs.Complete.{yields_below, arcs_below, pair_of, chained_steps_of, arc_of, step_arcs_of, arcs_of, chained_file}

-- COUNTS

module _ (N : NetMeaning) where
  pub one_more_yield : (t p : ℕ) → 0 < N.yields t p → yields_below N t (suc p) ≡ yields_below N t p + 1
  one_more_yield t p h = ap (λ z. yields_below N t p + z) (cond-true (ltb 0 (N.yields t p)) 1 0 (lt-ltb 0 (N.yields t p) h))

  pub no_more_yield : (t p : ℕ) → N.yields t p ≡ 0 → yields_below N t (suc p) ≡ yields_below N t p
  no_more_yield t p h = ap (λ z. yields_below N t p + z) (cond-false (ltb 0 (N.yields t p)) 1 0 (le-ltb 0 (N.yields t p) (omega (arith, h)))) ∙ omega arith

  pub yields_rise_by_one : (t p : ℕ) → yields_below N t p ≤ yields_below N t (suc p)
  yields_rise_by_one t p = elim (cases_eq (N.yields t p) 0) [
    | inl e ↦ omega (arith, no_more_yield t p e)
    | inr d ↦ omega (arith, one_more_yield t p (omega arith))
  ]

  pub yields_rise : (t p n : ℕ) → p ≤ n → yields_below N t p ≤ yields_below N t n
  yields_rise t p zero h = let e : p ≡ 0 = omega arith in omega (arith, ap (yields_below N t) e)
  yields_rise t p (suc n) h = elim (cases_lt n p) [
    | inl l ↦ let e : p ≡ suc n = omega arith in omega (arith, ap (yields_below N t) e)
    | inr l ↦ omega (arith, yields_rise t p n l, yields_rise_by_one t n)
  ]

  pub arcs_rise : (t n : ℕ) → t ≤ n → arcs_below N t ≤ arcs_below N n
  arcs_rise t zero h = let e : t ≡ 0 = omega arith in omega (arith, ap (arcs_below N) e)
  arcs_rise t (suc n) h = elim (cases_lt n t) [
    | inl l ↦ let e : t ≡ suc n = omega arith in omega (arith, ap (arcs_below N) e)
    | inr l ↦ omega (arith, arcs_rise t n l)
  ]

  pub arcs_fit : (t n : ℕ) → t < n → arcs_below N t + yields_below N t N.places ≤ arcs_below N n
  arcs_fit t n h = arcs_rise (suc t) n (omega arith)

  pub a_yield_is_left : (t p : ℕ) → p < N.places → 0 < N.yields t p → yields_below N t p + 1 ≤ yields_below N t N.places
  a_yield_is_left t p h y = omega (arith, one_more_yield t p y, yields_rise t (suc p) N.places (omega arith))

  -- the next place at which a step yields, if it yields once more
  pub next_place : (t p n : ℕ) → yields_below N t p < yields_below N t n → (q : ℕ) × (p ≤ q) × (q < n) × (0 < N.yields t q) × (yields_below N t q ≡ yields_below N t p)
  next_place t p zero h = absurd (omega arith)
  next_place t p (suc n) h = elim (cases_lt (yields_below N t p) (yields_below N t n)) [
    | inl l ↦ let w = next_place t p n l in (w.0, w.1, omega (arith, w.2), w.3, w.4)
    | inr l ↦
        elim (cases_eq (N.yields t n) 0) [
          | inl e ↦ absurd (omega (arith, no_more_yield t n e))
          | inr d ↦
              elim (cases_lt n p) [
                | inl m ↦ absurd (omega (arith, yields_rise t (suc n) p (omega arith)))
                | inr m ↦ (n, m, omega arith, omega arith, omega (arith, yields_rise t p n m))
              ]
        ]
  ]

  -- LENGTHS

  pub steps_long : (n : ℕ) → length (chained_steps_of N n) ≡ 3 * n
  steps_long zero = omega arith
  steps_long (suc n) = length-append (chained_steps_of N n) (N.input n ∷ pair_of (arcs_below N n + 1)) ∙ omega (arith, steps_long n)

  pub step_arcs_long : (t n : ℕ) → length (step_arcs_of N t n) ≡ 4 * yields_below N t n
  step_arcs_long t zero = omega arith
  step_arcs_long t (suc n) = length-append (step_arcs_of N t n) (cond (ltb 0 (N.yields t n)) (arc_of N t n) []) ∙ elim (cases_eq (N.yields t n) 0) [
    | inl e ↦
        let none : cond (ltb 0 (N.yields t n)) (arc_of N t n) [] ≡ [] = cond-false (ltb 0 (N.yields t n)) (arc_of N t n) [] (le-ltb 0 (N.yields t n) (omega (arith, e))) in
        omega (arith, ap length none, step_arcs_long t n, no_more_yield t n e)
    | inr d ↦
        let one : cond (ltb 0 (N.yields t n)) (arc_of N t n) [] ≡ arc_of N t n = cond-true (ltb 0 (N.yields t n)) (arc_of N t n) [] (lt-ltb 0 (N.yields t n) (omega arith)) in
        omega (arith, ap length one, step_arcs_long t n, one_more_yield t n (omega arith))
  ]

  pub arcs_long : (n : ℕ) → length (arcs_of N n) ≡ 4 * arcs_below N n
  arcs_long zero = omega arith
  arcs_long (suc n) = length-append (arcs_of N n) (step_arcs_of N n N.places) ∙ omega (arith, arcs_long n, step_arcs_long n N.places)

  -- BYTES

  pub steps_at : (n t k : ℕ) → t < n → k < 3 → get_or (chained_steps_of N n) (3 * t + k) 0 ≡ get_or (N.input t ∷ pair_of (arcs_below N t + 1)) k 0
  steps_at zero t k h l = absurd (omega arith)
  steps_at (suc n) t k h l = elim (cases_lt t n) [
    | inl b ↦ get_or_append_left (chained_steps_of N n) (N.input n ∷ pair_of (arcs_below N n + 1)) 0 (3 * t + k) (omega (arith, steps_long n)) ∙ steps_at n t k b l
    | inr b ↦
        let e : t ≡ n = omega arith in
        let back : (3 * t + k) - 3 * n ≡ k = omega (arith, e) in
        get_or-append_right (chained_steps_of N n) (N.input n ∷ pair_of (arcs_below N n + 1)) (3 * n) (3 * t + k) 0 (steps_long n) (omega (arith, e))
        ∙ ap (λ i. get_or (N.input n ∷ pair_of (arcs_below N n + 1)) i 0) back
        ∙ ap (λ z. get_or (N.input z ∷ pair_of (arcs_below N z + 1)) k 0) (sym e)
  ]

  pub step_arcs_at : (t n p k : ℕ) → p < n → 0 < N.yields t p → k < 4 → get_or (step_arcs_of N t n) (4 * yields_below N t p + k) 0 ≡ get_or (arc_of N t p) k 0
  step_arcs_at t zero p k h y l = absurd (omega arith)
  step_arcs_at t (suc n) p k h y l = elim (cases_lt p n) [
    | inl b ↦
        get_or_append_left (step_arcs_of N t n) (cond (ltb 0 (N.yields t n)) (arc_of N t n) []) 0 (4 * yields_below N t p + k)
        (omega (arith, step_arcs_long t n, one_more_yield t p y, yields_rise t (suc p) n (omega arith)))
        ∙ step_arcs_at t n p k b y l
    | inr b ↦
        let e : p ≡ n = omega arith in
        let same : yields_below N t p ≡ yields_below N t n = ap (yields_below N t) e in
        let back : (4 * yields_below N t p + k) - 4 * yields_below N t n ≡ k = omega (arith, same) in
        let Y : ℕ → Type 0 = λ z. 0 < N.yields t z in
        get_or-append_right (step_arcs_of N t n) (cond (ltb 0 (N.yields t n)) (arc_of N t n) []) (4 * yields_below N t n) (4 * yields_below N t p + k) 0 (step_arcs_long t n) (omega (arith, same))
        ∙ ap (λ i. get_or (cond (ltb 0 (N.yields t n)) (arc_of N t n) []) i 0) back
        ∙ ap (λ z. get_or z k 0) (cond-true (ltb 0 (N.yields t n)) (arc_of N t n) [] (lt-ltb 0 (N.yields t n) (subst Y e y)))
        ∙ ap (λ z. get_or (arc_of N t z) k 0) (sym e)
  ]

  pub arcs_at : (n t p k : ℕ) → t < n → p < N.places → 0 < N.yields t p → k < 4 → get_or (arcs_of N n) (4 * (arcs_below N t + yields_below N t p) + k) 0 ≡ get_or (arc_of N t p) k 0
  arcs_at zero t p k h i y l = absurd (omega arith)
  arcs_at (suc n) t p k h i y l = elim (cases_lt t n) [
    | inl b ↦
        get_or_append_left (arcs_of N n) (step_arcs_of N n N.places) 0 (4 * (arcs_below N t + yields_below N t p) + k)
        (omega (arith, arcs_long n, a_yield_is_left t p i y, arcs_fit t n b))
        ∙ arcs_at n t p k b i y l
    | inr b ↦
        let e : t ≡ n = omega arith in
        let same : arcs_below N t ≡ arcs_below N n = ap (arcs_below N) e in
        let back : (4 * (arcs_below N t + yields_below N t p) + k) - 4 * arcs_below N n ≡ 4 * yields_below N t p + k = omega (arith, same) in
        get_or-append_right (arcs_of N n) (step_arcs_of N n N.places) (4 * arcs_below N n) (4 * (arcs_below N t + yields_below N t p) + k) 0 (arcs_long n) (omega (arith, same))
        ∙ ap (λ z. get_or (step_arcs_of N n N.places) z 0) back
        ∙ ap (λ z. get_or (step_arcs_of N z N.places) (4 * yields_below N t p + k) 0) (sym e)
        ∙ step_arcs_at t N.places p k i y l
  ]

  -- the place of the arc with j before it
  pub place_of_yield : (t m j : ℕ) → j < yields_below N t m → (p : ℕ) × (p < m) × (0 < N.yields t p) × (j ≡ yields_below N t p)
  place_of_yield t zero j h = absurd (omega arith)
  place_of_yield t (suc m) j h = elim (cases_lt j (yields_below N t m)) [
    | inl l ↦ let w = place_of_yield t m j l in (w.0, omega (arith, w.1), w.2, w.3)
    | inr l ↦
        elim (cases_eq (N.yields t m) 0) [
          | inl e ↦ absurd (omega (arith, no_more_yield t m e))
          | inr d ↦ (m, omega arith, omega arith, omega (arith, one_more_yield t m (omega arith)))
        ]
  ]

  -- each arc's number is that of a step and place
  pub arc_is_of : (n a : ℕ) → a < arcs_below N n → (t : ℕ) × (p : ℕ) × (t < n) × (p < N.places) × (0 < N.yields t p) × (a ≡ arcs_below N t + yields_below N t p)
  arc_is_of zero a h = absurd (omega arith)
  arc_is_of (suc n) a h = elim (cases_lt a (arcs_below N n)) [
    | inl l ↦ let w = arc_is_of n a l in (w.0, w.1, omega (arith, w.2), w.3, w.4, w.5)
    | inr l ↦
        let w = place_of_yield n N.places (a - arcs_below N n) (omega arith) in
        (n, w.0, omega arith, w.1, w.2, omega (arith, w.3))
  ]

  -- the number of the arc of a step at a place, and of the arc behind it
  abbrev pub arc_number : ℕ → ℕ → ℕ
  arc_number t p = arcs_below N t + yields_below N t p + 1

  abbrev pub arc_behind : ℕ → ℕ → ℕ
  arc_behind t p = cond (ltb (yields_below N t (suc p)) (yields_below N t N.places)) (arcs_below N t + yields_below N t (suc p) + 1) 0

  pub an_arc_follows : (t p : ℕ) → yields_below N t (suc p) < yields_below N t N.places → arc_behind t p ≡ arcs_below N t + yields_below N t (suc p) + 1
  an_arc_follows t p h = cond-true (ltb (yields_below N t (suc p)) (yields_below N t N.places)) (arcs_below N t + yields_below N t (suc p) + 1) 0 (lt-ltb (yields_below N t (suc p)) (yields_below N t N.places) h)

  pub no_arc_follows : (t p : ℕ) → yields_below N t N.places ≤ yields_below N t (suc p) → arc_behind t p ≡ 0
  no_arc_follows t p h = cond-false (ltb (yields_below N t (suc p)) (yields_below N t N.places)) (arcs_below N t + yields_below N t (suc p) + 1) 0 (le-ltb (yields_below N t (suc p)) (yields_below N t N.places) h)

  -- THE FILE

  pub past_the_head : (i : ℕ) → get_or (chained_file N) (4 + i) 0 ≡ get_or (chained_steps_of N N.steps ++ arcs_of N N.steps) i 0
  past_the_head i = get_or-append-add (N.places ∷ N.steps ∷ pair_of (arcs_below N N.steps)) (chained_steps_of N N.steps ++ arcs_of N N.steps) i 0

  pub step_byte : (t k : ℕ) → t < N.steps → k < 3 → get_or (chained_file N) (4 + (3 * t + k)) 0 ≡ get_or (N.input t ∷ pair_of (arcs_below N t + 1)) k 0
  step_byte t k h l =
      past_the_head (3 * t + k)
      ∙ get_or_append_left (chained_steps_of N N.steps) (arcs_of N N.steps) 0 (3 * t + k) (omega (arith, steps_long N.steps))
      ∙ steps_at N.steps t k h l

  pub arc_byte : (t p k : ℕ) → t < N.steps → p < N.places → 0 < N.yields t p → k < 4 → get_or (chained_file N) ((3 * N.steps + 4 * arc_number t p) + k) 0 ≡ get_or (arc_of N t p) k 0
  arc_byte t p k h i y l =
      let place : (3 * N.steps + 4 * arc_number t p) + k ≡ 4 + (3 * N.steps + (4 * (arcs_below N t + yields_below N t p) + k)) = omega arith in
      let back : (3 * N.steps + (4 * (arcs_below N t + yields_below N t p) + k)) - 3 * N.steps ≡ 4 * (arcs_below N t + yields_below N t p) + k = omega arith in
      ap (λ z. get_or (chained_file N) z 0) place
      ∙ past_the_head (3 * N.steps + (4 * (arcs_below N t + yields_below N t p) + k))
      ∙ get_or-append_right (chained_steps_of N N.steps) (arcs_of N N.steps) (3 * N.steps) (3 * N.steps + (4 * (arcs_below N t + yields_below N t p) + k)) 0 (steps_long N.steps) (omega arith)
      ∙ ap (λ z. get_or (arcs_of N N.steps) z 0) back
      ∙ arcs_at N.steps t p k h i y l

  pub pair_back : (n : ℕ) → 256 * (n / 256) + n % 256 ≡ n
  pair_back n = omega arith

  pub arcs_are : chained_arcs (chained_file N) ≡ arcs_below N N.steps
  arcs_are = pair_back (arcs_below N N.steps)

  pub input_is : (t : ℕ) → t < N.steps → chained_input (chained_file N) t ≡ N.input t
  input_is t h = ap (λ z. get_or (chained_file N) z 0) (omega arith) ∙ step_byte t 0 h (omega arith)

  pub first_is : (t : ℕ) → t < N.steps → first_arc (chained_file N) t ≡ arcs_below N t + 1
  first_is t h =
      let high : get_or (chained_file N) (5 + 3 * t) 0 ≡ (arcs_below N t + 1) / 256 = ap (λ z. get_or (chained_file N) z 0) (omega arith) ∙ step_byte t 1 h (omega arith) in
      let low : get_or (chained_file N) ((5 + 3 * t) + 1) 0 ≡ (arcs_below N t + 1) % 256 = ap (λ z. get_or (chained_file N) z 0) (omega arith) ∙ step_byte t 2 h (omega arith) in
      omega (arith, high, low, pair_back (arcs_below N t + 1))

  pub place_is : (t p : ℕ) → t < N.steps → p < N.places → 0 < N.yields t p → arc_place (chained_file N) (arc_number t p) ≡ p
  place_is t p h i y = ap (λ z. get_or (chained_file N) z 0) (omega arith) ∙ arc_byte t p 0 h i y (omega arith)

  pub weight_is : (t p : ℕ) → t < N.steps → p < N.places → 0 < N.yields t p → arc_weight (chained_file N) (arc_number t p) ≡ N.yields t p
  weight_is t p h i y = arc_byte t p 1 h i y (omega arith)

  pub next_is : (t p : ℕ) → t < N.steps → p < N.places → 0 < N.yields t p → arc_next (chained_file N) (arc_number t p) ≡ arc_behind t p
  next_is t p h i y =
      let high : get_or (chained_file N) ((3 * N.steps + 4 * arc_number t p) + 2) 0 ≡ arc_behind t p / 256 = arc_byte t p 2 h i y (omega arith) in
      let low : get_or (chained_file N) (((3 * N.steps + 4 * arc_number t p) + 2) + 1) 0 ≡ arc_behind t p % 256 = ap (λ z. get_or (chained_file N) z 0) (omega arith) ∙ arc_byte t p 3 h i y (omega arith) in
      omega (arith, high, low, pair_back (arc_behind t p))
