-- Where no place is short and the inputs of the steps are reached, there is a step after which that
-- still holds, and so an order that does the tally.
use Rattle.std.proofs.Common.{◌≡◌, ℕ, zero, suc, ◌*◌, ◌<◌, ◌⊎◌, [], ◌∷◌, sym, refl, subst, inl, inr, mul-pos, arith}
use Rattle.std.proofs.lemmas.Bool.{cases_eq, cases_lt}
use Rattle.theory.specs.Nets.{NetMeaning, InputsInside}
use Rattle.theory.specs.Firing.{Marking, one_at, fired}
use Rattle.theory.specs.Tallies.{Tally, steps_asked, Realizable, IsReached}
use Rattle.theory.specs.Tallies.IsReached.{marked, through}
use Rattle.theory.specs.Orders.{less, IsSafe}
use Rattle.theory.proofs.SumLaws.{le_sum_to}
use Rattle.theory.proofs.TallySums.{one_same, one_other, sum_less, total_less, sum_find, pos_left, pos_right}
use Rattle.theory.proofs.Realized.{Enough, InputsReached, reached_fold, fired_is, realizes_more}

-- a place other than the input keeps its blocks
stays : (N : NetMeaning) (m : Marking) (t q : ℕ) → (N.input t ≡ q → ⊥) → 0 < m q → 0 < fired N m t q
stays N m t q d h = omega (arith, one_other (N.input t) q d)

-- where the step yields there are blocks
yielded : (N : NetMeaning) (m : Marking) (t q : ℕ) → 0 < N.yields t q → 0 < fired N m t q
yielded N m t q h = omega arith

left_over : (x : Tally) (t u : ℕ) → (t ≡ u → ⊥) → 0 < x u → 0 < less x t u
left_over x t u d h = omega (arith, one_other t u d)

-- s can be fired, and the inputs of the steps left are reached after it
abbrev pub KeepsReached : NetMeaning → Marking → Tally → ℕ → Type 0
KeepsReached N m x s =
    (s < N.steps) × (0 < x s) × (0 < m (N.input s)) × InputsReached N (fired N m s) (less x s)

-- a step of the tally that takes at p, after which q is reached
abbrev Back : NetMeaning → Marking → Tally → ℕ → ℕ → Type 0
Back N m x p q = (t : ℕ) × ((t < N.steps) × (0 < x t) × (N.input t ≡ p)) × IsReached N (fired N m t) (less x t) q

-- a step of the tally that can be fired
abbrev Ready : NetMeaning → Marking → Tally → Type 0
Ready N m x = (s : ℕ) × (s < N.steps) × (0 < x s) × (0 < m (N.input s))

module _ (N : NetMeaning) (m : Marking) (x : Tally) where
  -- some step can be fired where an input is reached
  some_ready : (t : ℕ) → t < N.steps → 0 < x t → IsReached N m x (N.input t) → Ready N m x
  some_ready t l h r =
      reached_fold N m x (λ q. (u : ℕ) → u < N.steps → 0 < x u → N.input u ≡ q → Ready N m x)
      (λ p k u a b e. (u, a, b, subst (λ (v : ℕ). 0 < m v) (sym e) k))
      (λ v q k j f y u a b e. f v k j refl)
      (N.input t) r t l h refl

  -- a step whose input is reached again after it
  pub keeps_if_back : InputsReached N m x → (s : ℕ) → s < N.steps → 0 < x s → 0 < m (N.input s) →
      IsReached N (fired N m s) (less x s) (N.input s) → KeepsReached N m x s
  keeps_if_back c s l h i back = (l, h, i, λ u k j. again (N.input u) (c u k (omega arith)))
    where
      again : (q : ℕ) → IsReached N m x q → IsReached N (fired N m s) (less x s) q
      again = reached_fold N m x (IsReached N (fired N m s) (less x s))
          (λ q k. elim (cases_eq (N.input s) q) [
            | inl e ↦ subst (IsReached N (fired N m s) (less x s)) e back
            | inr d ↦ marked (stays N m s q d k)
          ])
          (λ t q k j r y. elim (cases_eq s t) [
            | inl e ↦ marked (yielded N m s q (subst (λ (v : ℕ). 0 < N.yields v q) (sym e) y))
            | inr d ↦ through t k (left_over x s t d j) r y
          ])

  -- a step whose input no other step left takes from
  pub keeps_if_last : InputsReached N m x → (s : ℕ) → s < N.steps → 0 < x s → 0 < m (N.input s) →
      ((u : ℕ) → u < N.steps → 0 < less x s u → N.input s ≡ N.input u → ⊥) → KeepsReached N m x s
  keeps_if_last c s l h i last = (l, h, i, λ u k j. again (N.input u) (c u k (omega arith)) (last u k j))
    where
      again : (q : ℕ) → IsReached N m x q → (N.input s ≡ q → ⊥) → IsReached N (fired N m s) (less x s) q
      again = reached_fold N m x (λ q. (N.input s ≡ q → ⊥) → IsReached N (fired N m s) (less x s) q)
          (λ q k d. marked (stays N m s q d k))
          (λ t q k j r y _. elim (cases_eq s t) [
            | inl e ↦ marked (yielded N m s q (subst (λ (v : ℕ). 0 < N.yields v q) (sym e) y))
            | inr d ↦
                let o : 0 < less x s t = left_over x s t d j in
                through t k o (r (last t k o)) y
          ])

  -- where q is reached by a last step, then also after some step that takes at p
  one_on : (p t q : ℕ) → t < N.steps → 0 < x t → (N.input t ≡ p) ⊎ Back N m x p (N.input t) → 0 < N.yields t q →
      Back N m x p q
  one_on p t q l h (inl e) y = (t, (l, h, e), marked (yielded N m t q y))
  one_on p t q l h (inr b) y =
      elim (cases_eq b.0 t) [
        | inl e ↦ (b.0, b.1, marked (yielded N m b.0 q (subst (λ (v : ℕ). 0 < N.yields v q) (sym e) y)))
        | inr d ↦ (b.0, b.1, through t l (left_over x b.0 t d h) b.2 y)
      ]

  -- every other place that is reached is so after some step that takes where s does
  all_back : (s : ℕ) → s < N.steps → 0 < x s → (q : ℕ) → IsReached N m x q →
      (q ≡ N.input s) ⊎ Back N m x (N.input s) q
  all_back s l h =
      reached_fold N m x (λ q. (q ≡ N.input s) ⊎ Back N m x (N.input s) q)
      (λ q k. elim (cases_eq q (N.input s)) [
        | inl e ↦ inl e
        | inr d ↦ inr (s, (l, h, refl), marked (stays N m s q (λ e. d (sym e)) k))
      ])
      (λ t q k j b y. inr (one_on (N.input s) t q k j b y))

  -- take a step that can be fired, from p: if a step left yields at p, some step from p is followed by a way
  -- back to p; else two blocks at p keep it marked, and one block serves the last step from p
  pub safe_step : InputsInside N → Enough N m x → InputsReached N m x → (t : ℕ) → t < N.steps → 0 < x t →
      (s : ℕ) × KeepsReached N m x s
  safe_step inside enough c t l h = from (some_ready t l h (c t l h))
    where
      from : Ready N m x → (s : ℕ) × KeepsReached N m x s
      from (s, k, j, i) =
          elim (sum_find (λ u. x u * N.yields u (N.input s)) N.steps) [
            | inl w ↦
                let p : ℕ = N.input s in
                let u : ℕ = w.0 in
                let hu : 0 < x u = pos_left (x u) (N.yields u p) w.2 in
                let b : Back N m x p p =
                one_on p u p w.1 hu (all_back s k j (N.input u) (c u w.1 hu))
                (pos_right (x u) (N.yields u p) w.2) in
                let v : ℕ = b.0 in
                let e : N.input v ≡ p = b.1.2 in (
                  v,
                  keeps_if_back c v b.1.0 b.1.1 (subst (λ (q : ℕ). 0 < m q) (sym e) i)
                      (subst (IsReached N (fired N m v) (less x v)) (sym e) b.2),
                )
            | inr z ↦
                let p : ℕ = N.input s in
                elim (cases_lt 1 (m p)) [
                  | inl two ↦ (s, keeps_if_back c s k j i (marked (omega (arith, one_same (N.input s) (N.input s) refl))))
                  | inr one ↦ (
                    s,
                    keeps_if_last c s k j i
                        (λ u a b e.
                        let f : ℕ → ℕ = λ v. less x s v * one_at (N.input v) p in
                        let o : one_at (N.input u) p ≡ 1 = one_same (N.input u) p (sym e) in
                        let g : 0 < f u = mul-pos b (omega arith) in
                        let w = le_sum_to f N.steps u a in
                        let d = sum_less x (λ v. one_at (N.input v) p) s N.steps k j in
                        let n = enough p (inside s k) in
                        omega (arith, one_same p p refl)),
                  )
                ]
          ]

  -- firing changes no final number
  pub enough_after : (s : ℕ) → s < N.steps → 0 < x s → 0 < m (N.input s) → Enough N m x → Enough N (fired N m s) (less x s)
  enough_after s l h i enough p k =
      omega (
        arith,
        enough p k,
        fired_is N m s p i,
        sum_less x (λ u. one_at (N.input u) p) s N.steps l h,
        sum_less x (λ u. N.yields u p) s N.steps l h,
      )

pub order_of : (N : NetMeaning) → InputsInside N → (n : ℕ) (m : Marking) (x : Tally) → steps_asked N x ≡ n →
    Enough N m x → InputsReached N m x → Realizable N m x
order_of N inside zero m x e enough c =
    ([], (tt, λ t l. omega (arith, le_sum_to x N.steps t l)))
order_of N inside (suc n) m x e enough c =
    elim (sum_find x N.steps) [
      | inl w ↦
          let s = safe_step N m x inside enough c w.0 w.1 w.2 in
          let t : ℕ = s.0 in
          let k = s.1 in
          let r = order_of N inside n (fired N m t) (less x t)
          (omega (arith, total_less x t N.steps k.0 k.1))
          (enough_after N m x t k.0 k.1 k.2 enough) k.3 in
          (t ∷ r.0, realizes_more N m x t r.0 k.0 k.1 k.2 r.1)
      | inr z ↦ absurd (omega arith)
    ]

pub doable : (N : NetMeaning) → InputsInside N → (m : Marking) (x : Tally) → Enough N m x → InputsReached N m x → Realizable N m x
doable N inside m x = order_of N inside (steps_asked N x) m x refl

pub keeps_safe : (N : NetMeaning) → InputsInside N → (m : Marking) (x : Tally) → Enough N m x →
    (s : ℕ) → KeepsReached N m x s → IsSafe N m x s
keeps_safe N inside m x enough s (l, h, i, c) =
    (l, h, i, doable N inside (fired N m s) (less x s) (enough_after N m x s l h i enough) c)
