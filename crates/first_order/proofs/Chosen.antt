-- What the checks of a step say of the net, the marking and the tally that the schedule shows.
use Rattle.std.proofs.Common.{◌≡◌, ℕ, ◌<◌, ◌≤◌, Bool, true, false, not, ◌&&◌, ◌||◌, eqb, ltb, Some, None, Option, is_some, MatchOption, Decides, sym, refl, ap, ◌∙◌, subst, inl, inr, arith}
use Rattle.std.proofs.lemmas.Bool.{cases_Bool, cases_eq, both_ways, not-true, not-false, ltb-true, ltb-false, lt-ltb, eqb-true, eqb-false, eq-eqb, and_parts, and_cases, and_from, or_cases, or_parts}
use Rattle.theory.specs.Nets.{NetMeaning, NetLaw}
use Rattle.theory.specs.Rows.{at}
use Rattle.theory.specs.Firing.{Marking, fired}
use Rattle.theory.specs.Tallies.{Tally, NoPlaceCutOff}
use Rattle.theory.specs.Tests.{least, is_safe}
use Rattle.theory.proofs.TallySums.{one_same, one_other}
use Rattle.theory.specs.Orders.{less}
use Rattle.theory.specs.Laws.{IsLeast}
use Rattle.sets.specs.Flags.{has, IsEmpty}
use Rattle.first_order.specs.declared.schedule.Schedule.{Schedule}
use Rattle.reached.specs.Led.{Led, has_at}
use Rattle.theory.proofs.Decided.{least_found, none_found}
use Rattle.first_order.specs.Tables.{Kept, keeps_in, marked_after, TakesLast}
use Rattle.first_order.specs.Shows.{Shows, TellsSafe, is_left}
use Rattle.first_order.proofs.Marked.{marked_fired}
use Rattle.reached.proofs.Reaching.{led_decides}
use Rattle.first_order.proofs.SafeFirings.{not_ready, safe_if_marked, safe_if_last, safe_if_back}

module _ (N : NetMeaning) (law : NetLaw N) (m : Marking) (x : Tally) (s : Schedule) (h : Shows N m x s) (t : ℕ) (l : t < N.steps) where
  abbrev p : ℕ
  p = N.input t

  pub ready_shown : has s.ready t ≡ (ltb 0 (x t) && ltb 0 (m p))
  ready_shown =
      h.ready.ready t
      ∙ ap (λ (v : Bool). (v && ltb 0 (x t)) && has s.marked p) (lt-ltb t N.steps l)
      ∙ ap (λ (v : Bool). ltb 0 (x t) && v) (h.marked p)
      ∙ ap (λ (v : Bool). ltb 0 (x t) && (v && ltb 0 (m p))) (lt-ltb p N.places (law.inputs_inside t l))

  keeps_shown : keeps_in s t ≡ (ltb 1 (m p) || ltb 0 (N.yields t p))
  keeps_shown =
      ap (λ (v : ℕ). ltb 1 (at s.counts v) || has_at s.yields t v) (h.inputs t)
      ∙ ap (λ (v : ℕ). ltb 1 v || has_at s.yields t p) (h.counts p)
      ∙ ap (λ (v : Bool). ltb 1 (m p) || v) (h.yields t p)

  -- the steps in the row of takers, at the input place
  taker_shown : (u : ℕ) → has_at s.takers (at s.inputs t) u ≡ (is_left N x u && eqb (N.input u) p)
  taker_shown u = ap (λ (v : ℕ). has_at s.takers v u) (h.inputs t) ∙ h.ready.takers p u

  -- where the input place keeps no block, exactly the other marked places and the yields hold one after the step
  after_shown : 0 < m p → keeps_in s t ≡ false → (q : ℕ) → marked_after s t q ≡ (ltb q N.places && ltb 0 (fired N m t q))
  after_shown i lost q =
      let one : m p ≤ 1 = ltb-false 1 (m p) (or_parts (ltb 1 (m p)) (ltb 0 (N.yields t p)) (sym keeps_shown ∙ lost)).0 in
      ap (λ (v : ℕ). (has s.marked q && not (eqb q v)) || has_at s.yields t q) (h.inputs t)
      ∙ ap (λ (v : Bool). (has s.marked q && not (eqb q p)) || v) (h.yields t q)
      ∙ marked_fired N law m x s h t i q (has s.marked q && not (eqb q p)) (λ _. refl) (λ d. absurd (d (omega arith)))

  pub safe_not_ready : has s.ready t ≡ false → is_safe N m x t ≡ false
  safe_not_ready e = not_ready N law m x t (sym ready_shown ∙ e)

  module _ (ready : has s.ready t ≡ true) where
    pub is_there : 0 < x t
    is_there = ltb-true 0 (x t) (and_parts (ltb 0 (x t)) (ltb 0 (m p)) (sym ready_shown ∙ ready)).0

    pub holds : 0 < m p
    holds = ltb-true 0 (m p) (and_parts (ltb 0 (x t)) (ltb 0 (m p)) (sym ready_shown ∙ ready)).1

    -- it is among those that take at its input place
    pub takes_there : has_at s.takers (at s.inputs t) t ≡ true
    takes_there =
        taker_shown t
        ∙ and_from (is_left N x t) (eqb p p) (and_from (ltb t N.steps) (ltb 0 (x t)) (lt-ltb t N.steps l) (lt-ltb 0 (x t) is_there)) (eq-eqb p p refl)

  module _ (ready : has s.ready t ≡ true) (none : NoPlaceCutOff N m x) where
    pub safe_keeps : keeps_in s t ≡ true → is_safe N m x t ≡ true
    safe_keeps e = safe_if_marked N law m x t l (is_there ready) (holds ready) none
        (elim (or_cases (ltb 1 (m p)) (ltb 0 (N.yields t p)) (sym keeps_shown ∙ e)) [
          | inl a ↦ omega (arith, ltb-true 1 (m p) a, one_same p p refl)
          | inr a ↦ omega (arith, ltb-true 0 (N.yields t p) a)
        ])

    pub safe_last : TakesLast s t true → is_safe N m x t ≡ true
    safe_last last = safe_if_last N law m x t l (is_there ready) (holds ready) none
        (λ u k j e. last.1 u
        (taker_shown u ∙ and_from (is_left N x u) (eqb (N.input u) p)
        (and_from (ltb u N.steps) (ltb 0 (x u)) (lt-ltb u N.steps k) (lt-ltb 0 (x u) j)) (eq-eqb (N.input u) p e)))
        (sym (h.left t l) ∙ last.0)

    -- a step that is left after t and takes at its input place
    another : TakesLast s t false → (u : ℕ) × (u < N.steps) × (0 < less x t u) × (N.input u ≡ p)
    another more = elim more [
      | inl d ↦ (t, l, omega (arith, one_same t t refl, is_there ready, d_is d), refl)
      | inr w ↦
          let a = and_parts (is_left N x w.0) (eqb (N.input w.0) p) (sym (taker_shown w.0) ∙ w.1) in
          let b = and_parts (ltb w.0 N.steps) (ltb 0 (x w.0)) a.0 in
          (w.0, ltb-true w.0 N.steps b.0, omega (arith, ltb-true 0 (x w.0) b.1, one_other t w.0 (λ e. w.2 (sym e))), eqb-true (N.input w.0) p a.1)
    ]
      where
        d_is : (at s.left t ≡ 1 → ⊥) → 1 < x t
        d_is d = elim (cases_eq (x t) 1) [
          | inl e ↦ absurd (d (h.left t l ∙ e))
          | inr n ↦ omega (arith, is_there ready)
        ]

    pub safe_back : keeps_in s t ≡ false → TakesLast s t false → (r : Bool) →
        Decides r (Led (λ q z. has_at s.origins.before z q) (marked_after s t) (at s.inputs t)) → r ≡ is_safe N m x t
    safe_back lost more r d =
        safe_if_back N law m x t l (is_there ready) (holds ready) none (another more) r
        (led_decides N law (fired N m t) x (λ q z. has_at s.origins.before z q) (marked_after s t) (λ q z _. h.before z q) (after_shown (holds ready) lost) r p (law.inputs_inside t l)
        (subst (λ (q : ℕ). Decides r (Led (λ q z. has_at s.origins.before z q) (marked_after s t) q)) (h.inputs t) d))

-- the first step that is safe, of those that are ready and were not told to be unsafe, is the least safe one
module _ (N : NetMeaning) (law : NetLaw N) (m : Marking) (x : Tally) (s : Schedule) (h : Shows N m x s) (rest : ℕ → Bool)
    (unsafe : (t : ℕ) → t < N.steps → has s.ready t ≡ true → rest t ≡ false → is_safe N m x t ≡ false) where
  not_safe : (k : ℕ) → k < N.steps → rest k ≡ false → is_safe N m x k ≡ false
  not_safe k l e = elim (cases_Bool (has s.ready k)) [
    | inl r ↦ unsafe k l r e
    | inr f ↦ safe_not_ready N law m x s h k l f
  ]

  pub none_safe : ((k : ℕ) → rest k ≡ false) → None ≡ least (is_safe N m x) N.steps
  none_safe none = sym ((none_found (is_safe N m x) N.steps).1 (λ k l. not_safe k l (none k)))

  pub least_safe : (t : ℕ) → t < N.steps → is_safe N m x t ≡ true → ((k : ℕ) → k < t → rest k ≡ false) →
      Some t ≡ least (is_safe N m x) N.steps
  least_safe t l e below = sym ((least_found (is_safe N m x) N.steps t).1 (record { inside = l; passes = e; least = λ k j. not_safe k (omega arith) (below k j) }))

-- a step that is ready is the net's
pub a_step : (N : NetMeaning) (m : Marking) (x : Tally) (s : Schedule) → Shows N m x s → (t : ℕ) → has s.ready t ≡ true → t < N.steps
a_step N m x s h t e =
    ltb-true t N.steps (and_parts (ltb t N.steps) (ltb 0 (x t)) (and_parts (is_left N x t) (has s.marked (N.input t)) (sym (h.ready.ready t) ∙ e)).0).0

-- a schedule that differs at most in what searches found shows the same
pub shows_kept : (N : NetMeaning) (m : Marking) (x : Tally) (s s' : Schedule) → Kept s s' → Shows N m x s → Shows N m x s'
shows_kept N m x s s' k h = record {
  left = λ u j. ap (λ row. at row u) k.left ∙ h.left u j;
  inputs = λ u. ap (λ row. at row u) k.inputs ∙ h.inputs u;
  yields = λ u p. ap (λ row. has_at row u p) k.yields ∙ h.yields u p;
  counts = λ p. ap (λ row. at row p) k.counts ∙ h.counts p;
  marked = λ p. ap (λ set. has set p) k.marked ∙ h.marked p;
  before = λ p q. ap (λ row. has_at row p q) k.before ∙ h.before p q;
  ready = record {
    takers = λ p u. ap (λ row. has_at row p u) k.takers ∙ h.ready.takers p u;
    ready = λ u. ap (λ set. has set u) k.ready ∙ h.ready.ready u ∙ ap (λ set. is_left N x u && has set (N.input u)) (sym k.marked);
  };
}

pub kept_both : (s s' s₂ : Schedule) → Kept s s' → Kept s' s₂ → Kept s s₂
kept_both s s' s₂ k l = record {
  left = l.left ∙ k.left;
  inputs = l.inputs ∙ k.inputs;
  yields = l.yields ∙ k.yields;
  counts = l.counts ∙ k.counts;
  marked = l.marked ∙ k.marked;
  ready = l.ready ∙ k.ready;
  takers = l.takers ∙ k.takers;
  before = l.before ∙ k.before;
}

-- what is told by a schedule is told by one that differed at most in what searches found
pub told_before : (s s' : Schedule) → Kept s s' → (t u : ℕ) → u ≡ t → (b : Bool) → TellsSafe s' t b → TellsSafe s u b
told_before s s' k t u e b told = record {
  told = λ N m x law h none l.
      let T : ℕ → Type 0 = λ z. z < N.steps → b ≡ is_safe N m x z in
      subst T (sym e) (told.told N m x law (shows_kept N m x s s' k h) none) l;
}

-- the first of a set that has a step
first_of : (w t : ℕ) → t < 128 → has w t ≡ true → (k : ℕ) × IsLeast (has w) 128 k
first_of w t l h = from (least (has w) 128) refl
  where
    from : (o : Option ℕ) → least (has w) 128 ≡ o → (k : ℕ) × IsLeast (has w) 128 k
    from None e = absurd (both_ways (has w t) ((none_found (has w) 128).0 e t l) h)
    from (Some k) e = (k, (least_found (has w) 128 k).0 e)

-- a step that is left once and takes at its place: what is left of those that take there without the first of them tells
-- whether it is the only one
pub last_told : (s : Schedule) (t : ℕ) → t < 128 → at s.left t ≡ 1 → (w w' : ℕ) → w ≡ at s.takers (at s.inputs t) → has w t ≡ true →
    ((k : ℕ) → IsLeast (has w) 128 k → (u : ℕ) → has w' u ≡ (has w u && not (eqb u k))) →
    (o : Option ℕ) → MatchOption o (IsEmpty w') (IsLeast (has w') 128) → TakesLast s t (not (is_some o))
last_told s t l once w w' row there less None none = (
  once,
  λ u h. is_first u (ap (λ (v : ℕ). has v u) row ∙ h) ∙ sym (is_first t there),
)
  where
    k : (k : ℕ) × IsLeast (has w) 128 k
    k = first_of w t l there

    is_first : (u : ℕ) → has w u ≡ true → u ≡ k.0
    is_first u h = elim (and_cases (has w u) (not (eqb u k.0)) (sym (less k.0 k.1 u) ∙ none u)) [
      | inl f ↦ absurd (both_ways (has w u) f h)
      | inr f ↦ eqb-true u k.0 (not-false (eqb u k.0) f)
    ]
last_told s t l once w w' row there less (Some u) f = inr (elim (cases_eq k.0 t) [
  | inl same ↦ (u, ap (λ (v : ℕ). has v u) (sym row) ∙ both.0, λ e. eqb-false u k.0 (not-true (eqb u k.0) both.1) (e ∙ sym same))
  | inr other ↦ (k.0, ap (λ (v : ℕ). has v k.0) (sym row) ∙ k.1.passes, other)
])
  where
    k : (k : ℕ) × IsLeast (has w) 128 k
    k = first_of w t l there

    both : (has w u ≡ true) × (not (eqb u k.0) ≡ true)
    both = and_parts (has w u) (not (eqb u k.0)) (sym (less k.0 k.1 u) ∙ f.passes)
