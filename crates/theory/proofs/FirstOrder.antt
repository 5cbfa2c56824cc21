-- Choosing the least safe step each time gives the first order, and the computed order does so.
use Rattle.std.proofs.Common.{◌≡◌, ℕ, zero, suc, ◌⊎◌, List, [], ◌∷◌, Some, None, Option, sym, refl, ap, subst, inl, inr, arith}
use Rattle.std.proofs.lemmas.Bool.{cases_order, both_ways}
use Rattle.theory.specs.Nets.{NetMeaning, InputsInside}
use Rattle.theory.specs.Firing.{Marking, fired}
use Rattle.theory.specs.Tallies.{Tally, steps_asked, Realizes, Realizable, NoPlaceShort, NoPlaceCutOff}
use Rattle.theory.specs.Orders.{Earlier, less, IsSafe, LeastSafeEachTime}
use Rattle.theory.specs.Tests.{least, is_safe, followed, first_steps, first_order}
use Rattle.theory.specs.Laws.{LeastSafeIsFirst, ComputedIsLeastSafe, ComputedIsFirst, FirstIsOne, FirstOrderGoesOn, FirstOrderEnds, EarlierOneWay, EarlierGoesOn, EarlierCompares}
use Rattle.theory.proofs.SumLaws.{le_sum_to, sum_to_none}
use Rattle.theory.proofs.TallySums.{total_less, sum_find}
use Rattle.theory.proofs.Realized.{first_counts, rest_realizes, realizes_more}
use Rattle.theory.proofs.Decided.{done_exactly_if, safe_step_exists, safe_decided, least_found, none_found}

-- THE ORDER ON ORDERS

pub earlier_one_way : EarlierOneWay
earlier_one_way [] us a b = a
earlier_one_way (t ∷ ts) [] a b = a
earlier_one_way (t ∷ ts) (u ∷ us) (inl l) (inl k) = omega arith
earlier_one_way (t ∷ ts) (u ∷ us) (inl l) (inr k) = omega (arith, k.0)
earlier_one_way (t ∷ ts) (u ∷ us) (inr l) (inl k) = omega (arith, l.0)
earlier_one_way (t ∷ ts) (u ∷ us) (inr l) (inr k) = earlier_one_way ts us l.1 k.1

pub earlier_goes_on : EarlierGoesOn
earlier_goes_on [] us vs a b = absurd a
earlier_goes_on (t ∷ ts) [] vs a b = absurd a
earlier_goes_on (t ∷ ts) (u ∷ us) [] a b = absurd b
earlier_goes_on (t ∷ ts) (u ∷ us) (v ∷ vs) (inl l) (inl k) = inl (omega arith)
earlier_goes_on (t ∷ ts) (u ∷ us) (v ∷ vs) (inl l) (inr k) = inl (omega (arith, k.0))
earlier_goes_on (t ∷ ts) (u ∷ us) (v ∷ vs) (inr l) (inl k) = inl (omega (arith, l.0))
earlier_goes_on (t ∷ ts) (u ∷ us) (v ∷ vs) (inr l) (inr k) =
    inr (omega (arith, l.0, k.0), earlier_goes_on ts us vs l.1 k.1)

pub earlier_compares : EarlierCompares
earlier_compares [] [] e = inl refl
earlier_compares [] (u ∷ us) e = absurd (omega arith)
earlier_compares (t ∷ ts) [] e = absurd (omega arith)
earlier_compares (t ∷ ts) (u ∷ us) e =
    elim (cases_order t u) [
      | inl s ↦
          elim (earlier_compares ts us (omega arith)) [
            | inl r ↦ inl (cc)
            | inr (inl r) ↦ inr (inl (inr (s, r)))
            | inr (inr r) ↦ inr (inr (inr (sym s, r)))
          ]
      | inr (inl l) ↦ inr (inl (inl l))
      | inr (inr l) ↦ inr (inr (inl l))
    ]

-- THE FIRST ORDER

module _ (N : NetMeaning) where
  least_safe_realizes : (m : Marking) (x : Tally) (order : List ℕ) → LeastSafeEachTime N m x order → Realizes N m x order
  least_safe_realizes m x [] g = (tt, λ t l. sym (g t l))
  least_safe_realizes m x (t ∷ ts) g =
      realizes_more N m x t ts g.0.0 g.0.1 g.0.2 (least_safe_realizes (fired N m t) (less x t) ts g.2)

  -- whatever an order that does the tally does first is safe
  head_safe : (m : Marking) (x : Tally) (t : ℕ) (ts : List ℕ) → Realizes N m x (t ∷ ts) → IsSafe N m x t
  head_safe m x t ts r = (r.0.0, first_counts N m x t ts r, r.0.1, (ts, rest_realizes N m x t ts r))

  least_safe_before : (m : Marking) (x : Tally) (order other : List ℕ) → LeastSafeEachTime N m x order →
      Realizes N m x other → (order ≡ other) ⊎ Earlier order other
  least_safe_before m x [] [] g r = inl refl
  least_safe_before m x [] (u ∷ us) g r = absurd (omega (arith, g u r.0.0, first_counts N m x u us r))
  least_safe_before m x (t ∷ ts) [] g r = absurd (omega (arith, r.1 t g.0.0, g.0.1))
  least_safe_before m x (t ∷ ts) (u ∷ us) g r =
      elim (cases_order t u) [
        | inl e ↦
            let r' : Realizes N m x (t ∷ us) = subst (λ (v : ℕ). Realizes N m x (v ∷ us)) (sym e) r in
            elim (least_safe_before (fired N m t) (less x t) ts us g.2 (rest_realizes N m x t us r')) [
              | inl s ↦ inl (λ i. e i ∷ s i)
              | inr s ↦ inr (inr (e, s))
            ]
        | inr (inl l) ↦ inr (inl l)
        | inr (inr l) ↦ absurd (g.1 u l (head_safe m x u us r))
      ]

pub least_safe_is_first : LeastSafeIsFirst
least_safe_is_first N m x order g = record {
  realizes = least_safe_realizes N m x order g;
  before_others = λ other. least_safe_before N m x order other g;
}

first_steps_least : (N : NetMeaning) → InputsInside N → (n : ℕ) (m : Marking) (x : Tally) → steps_asked N x ≡ n →
    Realizable N m x → LeastSafeEachTime N m x (first_steps N m x n)
first_steps_least N inside zero m x e r = λ t l. omega (arith, le_sum_to x N.steps t l)
first_steps_least N inside (suc n) m x e r =
    go (λ t k. first_steps_least N inside n (fired N m t) (less x t) (omega (arith, total_less x t N.steps k.0 k.1)) k.3)
    (least (is_safe N m x) N.steps) refl
  where
    both : NoPlaceShort N m x × NoPlaceCutOff N m x
    both = (done_exactly_if N inside m x).0 r

    go : ((t : ℕ) → IsSafe N m x t → LeastSafeEachTime N (fired N m t) (less x t) (first_steps N (fired N m t) (less x t) n)) →
        (o : Option ℕ) → least (is_safe N m x) N.steps ≡ o →
        LeastSafeEachTime N m x (followed o (λ t. first_steps N (fired N m t) (less x t) n))
    go rest None z =
        elim (sum_find x N.steps) [
          | inl w ↦
              let s = safe_step_exists N inside m x both.0 both.1 w.0 w.1 w.2 in
              absurd (both_ways (is_safe N m x s.0) ((none_found (is_safe N m x) N.steps).0 z s.0 s.1.0)
              ((safe_decided N inside m x both.0 s.0).1 s.1))
          | inr y ↦ absurd (omega arith)
        ]
    go rest (Some t) z =
        let f = (least_found (is_safe N m x) N.steps t).0 z in
        let k : IsSafe N m x t = (safe_decided N inside m x both.0 t).0 f.passes in
        (k, λ u l s. both_ways (is_safe N m x u) (f.least u l) ((safe_decided N inside m x both.0 u).1 s), rest t k)

pub computed_is_least_safe : ComputedIsLeastSafe
computed_is_least_safe N inside m x = first_steps_least N inside (steps_asked N x) m x refl

pub computed_is_first : ComputedIsFirst
computed_is_first N inside m x r = least_safe_is_first N m x (first_order N m x) (computed_is_least_safe N inside m x r)

pub first_is_one : FirstIsOne
first_is_one N m x order other f g =
    elim (f.before_others other g.realizes) [
      | inl e ↦ e
      | inr a ↦
          elim (g.before_others order f.realizes) [
            | inl e ↦ sym e
            | inr b ↦ absurd (earlier_one_way order other a b)
          ]
    ]

pub first_order_goes_on : FirstOrderGoesOn
first_order_goes_on N inside m x t s below =
    let rest : List ℕ = first_order N (fired N m t) (less x t) in
    let done : Realizes N m x (t ∷ s.3.0) = realizes_more N m x t s.3.0 s.0 s.1 s.2 s.3.1 in
    first_is_one N m x (first_order N m x) (t ∷ rest)
    (computed_is_first N inside m x (t ∷ s.3.0, done))
    (least_safe_is_first N m x (t ∷ rest) (s, below, computed_is_least_safe N inside (fired N m t) (less x t) s.3))

pub first_order_ends : FirstOrderEnds
first_order_ends N m x none = ap (first_steps N m x) (sum_to_none x N.steps none)
