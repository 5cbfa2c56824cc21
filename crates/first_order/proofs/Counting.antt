-- A schedule shows the tally with one step less once its tables are changed.
use Rattle.std.proofs.Common.{◌≡◌, ℕ, ◌-◌, ◌<◌, Bool, true, false, not, ◌&&◌, ◌||◌, eqb, ltb, ◌⊎◌, set, sym, refl, ap, ◌∙◌, subst, inl, inr, arith}
use Rattle.std.proofs.lemmas.Bool.{cases_eq, lt-ltb, le-ltb, ltb-true, eq-eqb, ne_eqb, eqb-true, and_parts, and_from, and_right, or_left, or_right}
use Rattle.theory.specs.Nets.{NetMeaning, NetLaw}
use Rattle.theory.specs.Rows.{at}
use Rattle.theory.specs.Firing.{Marking, one_at}
use Rattle.theory.specs.Tallies.{Tally}
use Rattle.theory.specs.Orders.{less}
use Rattle.theory.proofs.TallySums.{one_other, one_tells}
use Rattle.sets.specs.Flags.{has}
use Rattle.first_order.specs.declared.schedule.Schedule.{Schedule}
use Rattle.reached.specs.Led.{has_at}
use Rattle.reached.specs.Leads.{takes, leads_to}
use Rattle.reached.proofs.Flagged.{any_alike}
use Rattle.theory.proofs.ReachRounds.{any_find, any_from}
use Rattle.first_order.specs.Tables.{Finished, Readied, any_step, lost_by}
use Rattle.first_order.specs.Shows.{Shows, is_left}
use Rattle.first_order.proofs.Rows.{one_less_at}
use Rattle.first_order.proofs.Added.{same_truth, step_find, step_from}

-- the two differ only in that one less of t is left
pub record CountedDown (s : Schedule) (t : ℕ) (s' : Schedule) : Type 0 where
  pub left : s'.left ≡ set s.left t (at s.left t - 1)
  pub inputs : s'.inputs ≡ s.inputs
  pub yields : s'.yields ≡ s.yields
  pub counts : s'.counts ≡ s.counts
  pub marked : s'.marked ≡ s.marked
  pub ready : s'.ready ≡ s.ready
  pub takers : s'.takers ≡ s.takers
  pub before : s'.origins.before ≡ s.origins.before

-- which steps are left may be said in two ways
readied_alike : (a b : ℕ → Bool) (input : ℕ → ℕ) (s : Schedule) → ((t : ℕ) → b t ≡ a t) → Readied a input s → Readied b input s
readied_alike a b input s e r = record {
  takers = λ p t. r.takers p t ∙ ap (λ (v : Bool). v && eqb (input t) p) (sym (e t));
  ready = λ t. r.ready t ∙ ap (λ (v : Bool). v && has s.marked (input t)) (sym (e t));
}

-- what is kept of a, which a leads to and no other does
kept_of : (a s y : Bool) → (s ≡ true → a ≡ true) → (a ≡ true → (s || y) ≡ true) → (a && not (y && not s)) ≡ s
kept_of true true true f g = refl
kept_of true true false f g = refl
kept_of true false true f g = refl
kept_of true false false f g = sym (g refl)
kept_of false true y f g = f refl
kept_of false false y f g = refl

nothing_out : (v y : Bool) → (v && not (y && false)) ≡ v
nothing_out true true = refl
nothing_out true false = refl
nothing_out false y = refl

and_true : (v : Bool) → (v && true) ≡ v
and_true true = refl
and_true false = refl

and_swap : (v w z : Bool) → ((v && w) && z) ≡ ((v && z) && w)
and_swap true true true = refl
and_swap true true false = refl
and_swap true false true = refl
and_swap true false false = refl
and_swap false w z = refl

drop_other : (v w z : Bool) → (w ≡ true → z ≡ true) → ((v && w) && not (z && true)) ≡ ((v && false) && w)
drop_other true true z g = ap (λ (y : Bool). not (y && true)) (g refl)
drop_other true false z g = refl
drop_other false w z g = refl

module _ (N : NetMeaning) (law : NetLaw N) (m : Marking) (x : Tally) (s : Schedule) (h : Shows N m x s) (t : ℕ) (l : t < N.steps) (k : 0 < x t)
    (counted : Schedule) (c : CountedDown s t counted) where
  left_after : (u : ℕ) → u < N.steps → at counted.left u ≡ less x t u
  left_after u j =
      ap (λ row. at row u) c.left ∙ one_less_at s.left t u (omega (arith, h.left t l)) ∙ ap (λ (v : ℕ). v - one_at t u) (h.left u j)

  -- which steps that are left take at q changes only if the last of t is gone and t takes there
  takes_same : (q : ℕ) → ((N.input t ≡ q → ⊥) ⊎ (1 < x t)) → (u : ℕ) → takes N (less x t) q u ≡ takes N x q u
  takes_same q why u = elim (one_tells t u) [
    | inr d ↦ ap (λ (v : ℕ). ltb 0 v && eqb (N.input u) q) (omega (arith, d.1))
    | inl e ↦ elim why [
      | inl other ↦
          let z : eqb (N.input u) q ≡ false = ne_eqb (N.input u) q (λ f. other (ap (λ (v : ℕ). N.input v) e.0 ∙ f)) in
          and_right (ltb 0 (less x t u)) (eqb (N.input u) q) z ∙ sym (and_right (ltb 0 (x u)) (eqb (N.input u) q) z)
      | inr two ↦
          let two' : 1 < x u = subst (λ (v : ℕ). 1 < x v) e.0 two in
          ap (λ (v : Bool). v && eqb (N.input u) q) (lt-ltb 0 (less x t u) (omega (arith, e.1)) ∙ sym (lt-ltb 0 (x u) (omega arith)))
    ]
  ]

  module _ (q : ℕ) (why : (N.input t ≡ q → ⊥) ⊎ (1 < x t)) where
    leads_less : (p : ℕ) → leads_to N (less x t) q p ≡ leads_to N x q p
    leads_less p =
        any_alike (λ u. takes N (less x t) q u && ltb 0 (N.yields u p)) (λ u. takes N x q u && ltb 0 (N.yields u p)) N.steps
        (λ u j. ap (λ (v : Bool). v && ltb 0 (N.yields u p)) (takes_same q why u))

  -- a step that is left stays so if more of it is left, and else is the only one that goes
  left_more : 1 < x t → (u : ℕ) → is_left N (less x t) u ≡ is_left N x u
  left_more two u = ap (λ (v : Bool). ltb u N.steps && v) (elim (one_tells t u) [
    | inr d ↦ ap (ltb 0) (omega (arith, d.1))
    | inl e ↦
        let two' : 1 < x u = subst (λ (v : ℕ). 1 < x v) e.0 two in
        lt-ltb 0 (less x t u) (omega (arith, e.1)) ∙ sym (lt-ltb 0 (x u) (omega arith))
  ])

  left_none : x t ≡ 1 → (u : ℕ) → is_left N (less x t) u ≡ (is_left N x u && not (eqb u t))
  left_none once u = elim (one_tells t u) [
    | inr d ↦
        ap (λ (v : ℕ). ltb u N.steps && ltb 0 v) (omega (arith, d.1))
        ∙ sym (and_true (is_left N x u)) ∙ ap (λ (v : Bool). is_left N x u && not v) (sym (ne_eqb u t (λ e. d.0 (sym e))))
    | inl e ↦
        let one : x u ≡ 1 = subst (λ (v : ℕ). x v ≡ 1) e.0 once in
        and_right (ltb u N.steps) _ (le-ltb 0 (less x t u) (omega (arith, e.1)))
        ∙ sym (and_right (is_left N x u) _ (ap not (eq-eqb u t (sym e.0))))
  ]

  -- more of the step is left
  pub shows_more_left : 1 < x t → Shows N m (less x t) counted
  shows_more_left two = record {
    left = left_after;
    inputs = λ u. ap (λ row. at row u) c.inputs ∙ h.inputs u;
    yields = λ u p. ap (λ row. has_at row u p) c.yields ∙ h.yields u p;
    counts = λ p. ap (λ row. at row p) c.counts ∙ h.counts p;
    marked = λ p. ap (λ set. has set p) c.marked ∙ h.marked p;
    before = λ p q. ap (λ row. has_at row p q) c.before ∙ (h.before p q ∙ sym (leads_less q (inr two) p));
    ready = readied_alike (is_left N x) (is_left N (less x t)) N.input counted (left_more two) (record {
      takers = λ p u. ap (λ row. has_at row p u) c.takers ∙ h.ready.takers p u;
      ready = λ u. ap (λ set. has set u) c.ready ∙ h.ready.ready u ∙ ap (λ set. is_left N x u && has set (N.input u)) (sym c.marked);
    });
  }

  -- the last of the step is gone
  module _ (once : x t ≡ 1) (s' : Schedule) (f : Finished counted t s') where
    abbrev place : ℕ
    place = N.input t

    there : at counted.inputs t ≡ place
    there = ap (λ row. at row t) c.inputs ∙ h.inputs t

    takers_were : (p u : ℕ) → has_at counted.takers p u ≡ (is_left N x u && eqb (N.input u) p)
    takers_were p u = ap (λ row. has_at row p u) c.takers ∙ h.ready.takers p u

    takers_now : (p u : ℕ) → has_at s'.takers p u ≡ ((is_left N x u && not (eqb u t)) && eqb (N.input u) p)
    takers_now p u =
        f.takers p u
        ∙ ap (λ (v : Bool). v && not (eqb p (at counted.inputs t) && eqb u t)) (takers_were p u)
        ∙ ap (λ (v : ℕ). (is_left N x u && eqb (N.input u) p) && not (eqb p v && eqb u t)) there
        ∙ elim (cases_eq u t) [
          | inl e ↦
              ap (λ (v : Bool). (is_left N x u && eqb (N.input u) p) && not (eqb p place && v)) (eq-eqb u t e)
              ∙ drop_other (is_left N x u) (eqb (N.input u) p) (eqb p place)
              (λ k. eq-eqb p place (sym (eqb-true (N.input u) p k) ∙ ap N.input e))
              ∙ ap (λ (v : Bool). (is_left N x u && not v) && eqb (N.input u) p) (sym (eq-eqb u t e))
          | inr d ↦
              ap (λ (v : Bool). (is_left N x u && eqb (N.input u) p) && not (eqb p place && v)) (ne_eqb u t d)
              ∙ nothing_out (is_left N x u && eqb (N.input u) p) (eqb p place)
              ∙ ap (λ (v : Bool). v && eqb (N.input u) p) (sym (and_true (is_left N x u)))
              ∙ ap (λ (v : Bool). (is_left N x u && not v) && eqb (N.input u) p) (sym (ne_eqb u t d))
        ]

    -- what the others lead to
    abbrev still : ℕ → Bool
    still p = any_step (λ u. (has_at counted.takers (at counted.inputs t) u && not (eqb u t)) && has_at counted.yields u p)

    another : (p u : ℕ) → ((has_at counted.takers (at counted.inputs t) u && not (eqb u t)) && has_at counted.yields u p)
        ≡ (((is_left N x u && eqb (N.input u) place) && not (eqb u t)) && ltb 0 (N.yields u p))
    another p u =
        ap (λ (v : ℕ). (has_at counted.takers v u && not (eqb u t)) && has_at counted.yields u p) there
        ∙ ap (λ (v : Bool). (v && not (eqb u t)) && has_at counted.yields u p) (takers_were place u)
        ∙ ap (λ (v : Bool). ((is_left N x u && eqb (N.input u) place) && not (eqb u t)) && v) (ap (λ row. has_at row u p) c.yields ∙ h.yields u p)

    still_less : (p : ℕ) → leads_to N (less x t) place p ≡ still p
    still_less p = same_truth (leads_to N (less x t) place p) (still p)
        (λ e.
        let w = any_find (λ u. takes N (less x t) place u && ltb 0 (N.yields u p)) N.steps e in
        let a = and_parts (takes N (less x t) place w.0) (ltb 0 (N.yields w.0 p)) w.2 in
        let b = and_parts (ltb 0 (less x t w.0)) (eqb (N.input w.0) place) a.0 in
        let l' = and_parts (is_left N x w.0) (not (eqb w.0 t))
        (sym (left_none once w.0) ∙ and_from (ltb w.0 N.steps) (ltb 0 (less x t w.0)) (lt-ltb w.0 N.steps w.1) b.0) in
        step_from (λ u. (has_at counted.takers (at counted.inputs t) u && not (eqb u t)) && has_at counted.yields u p) w.0 (omega (arith, w.1, law.few_steps))
        (another p w.0
        ∙ and_from ((is_left N x w.0 && eqb (N.input w.0) place) && not (eqb w.0 t)) (ltb 0 (N.yields w.0 p))
        (and_from (is_left N x w.0 && eqb (N.input w.0) place) (not (eqb w.0 t)) (and_from (is_left N x w.0) (eqb (N.input w.0) place) l'.0 b.1) l'.1) a.1))
        (λ e.
        let w = step_find (λ u. (has_at counted.takers (at counted.inputs t) u && not (eqb u t)) && has_at counted.yields u p) e in
        let a = and_parts ((is_left N x w.0 && eqb (N.input w.0) place) && not (eqb w.0 t)) (ltb 0 (N.yields w.0 p)) (sym (another p w.0) ∙ w.2) in
        let b = and_parts (is_left N x w.0 && eqb (N.input w.0) place) (not (eqb w.0 t)) a.0 in
        let d = and_parts (is_left N x w.0) (eqb (N.input w.0) place) b.0 in
        let now = and_parts (ltb w.0 N.steps) (ltb 0 (less x t w.0)) (left_none once w.0 ∙ and_from (is_left N x w.0) (not (eqb w.0 t)) d.0 b.1) in
        any_from (λ u. takes N (less x t) place u && ltb 0 (N.yields u p)) w.0 N.steps (ltb-true w.0 N.steps now.0)
        (and_from (takes N (less x t) place w.0) (ltb 0 (N.yields w.0 p)) (and_from (ltb 0 (less x t w.0)) (eqb (N.input w.0) place) now.1 d.1) a.1))

    -- what was led to is still led to, or by t alone
    one_or_other : (p : ℕ) → leads_to N x place p ≡ true → (leads_to N (less x t) place p || ltb 0 (N.yields t p)) ≡ true
    one_or_other p e =
        let w = any_find (λ u. takes N x place u && ltb 0 (N.yields u p)) N.steps e in
        let a = and_parts (takes N x place w.0) (ltb 0 (N.yields w.0 p)) w.2 in
        let b = and_parts (ltb 0 (x w.0)) (eqb (N.input w.0) place) a.0 in
        elim (cases_eq w.0 t) [
          | inl s ↦ or_right (leads_to N (less x t) place p) (ltb 0 (N.yields t p)) (subst (λ (u : ℕ). ltb 0 (N.yields u p) ≡ true) s a.1)
          | inr d ↦
              or_left (leads_to N (less x t) place p) (ltb 0 (N.yields t p))
              (any_from (λ u. takes N (less x t) place u && ltb 0 (N.yields u p)) w.0 N.steps w.1
              (and_from (takes N (less x t) place w.0) (ltb 0 (N.yields w.0 p))
              (and_from (ltb 0 (less x t w.0)) (eqb (N.input w.0) place)
              (lt-ltb 0 (less x t w.0) (omega (arith, one_other t w.0 (λ s. d (sym s)), ltb-true 0 (x w.0) b.0))) b.1) a.1))
        ]

    was_led : (p : ℕ) → leads_to N (less x t) place p ≡ true → leads_to N x place p ≡ true
    was_led p e =
        let w = any_find (λ u. takes N (less x t) place u && ltb 0 (N.yields u p)) N.steps e in
        let a = and_parts (takes N (less x t) place w.0) (ltb 0 (N.yields w.0 p)) w.2 in
        let b = and_parts (ltb 0 (less x t w.0)) (eqb (N.input w.0) place) a.0 in
        any_from (λ u. takes N x place u && ltb 0 (N.yields u p)) w.0 N.steps w.1
        (and_from (takes N x place w.0) (ltb 0 (N.yields w.0 p))
        (and_from (ltb 0 (x w.0)) (eqb (N.input w.0) place) (lt-ltb 0 (x w.0) (omega (arith, ltb-true 0 (less x t w.0) b.0))) b.1) a.1)

    before_now : (p q : ℕ) → has_at s'.origins.before p q ≡ leads_to N (less x t) q p
    before_now p q =
        f.before p q
        ∙ ap (λ row. has_at row p q && not (lost_by counted t p && eqb q (at counted.inputs t))) c.before
        ∙ ap (λ (v : ℕ). has_at s.origins.before p q && not (lost_by counted t p && eqb q v)) there
        ∙ ap (λ (v : Bool). v && not (lost_by counted t p && eqb q place)) (h.before p q)
        ∙ elim (cases_eq q place) [
          | inr d ↦
              ap (λ (v : Bool). leads_to N x q p && not (lost_by counted t p && v)) (ne_eqb q place d)
              ∙ nothing_out (leads_to N x q p) (lost_by counted t p) ∙ sym (leads_less q (inl (λ e. d (sym e))) p)
          | inl e ↦
              ap (λ (v : Bool). leads_to N x q p && not (lost_by counted t p && v)) (eq-eqb q place e)
              ∙ subst (λ (z : ℕ). (leads_to N x z p && not (lost_by counted t p && true)) ≡ leads_to N (less x t) z p) (sym e)
              (ap (λ (v : Bool). leads_to N x place p && not v) (lost_is p)
              ∙ kept_of (leads_to N x place p) (leads_to N (less x t) place p) (ltb 0 (N.yields t p)) (was_led p) (one_or_other p))
        ]
      where
        lost_is : (p : ℕ) → (lost_by counted t p && true) ≡ (ltb 0 (N.yields t p) && not (leads_to N (less x t) place p))
        lost_is p =
            and_true (lost_by counted t p)
            ∙ ap (λ (v : Bool). v && not (still p)) (ap (λ row. has_at row t p) c.yields ∙ h.yields t p)
            ∙ ap (λ (v : Bool). ltb 0 (N.yields t p) && not v) (sym (still_less p))

    pub shows_last_gone : Shows N m (less x t) s'
    shows_last_gone = record {
      left = λ u j. ap (λ row. at row u) f.left ∙ left_after u j;
      inputs = λ u. ap (λ row. at row u) (f.inputs ∙ c.inputs) ∙ h.inputs u;
      yields = λ u p. ap (λ row. has_at row u p) (f.yields ∙ c.yields) ∙ h.yields u p;
      counts = λ p. ap (λ row. at row p) (f.counts ∙ c.counts) ∙ h.counts p;
      marked = λ p. ap (λ set. has set p) (f.marked ∙ c.marked) ∙ h.marked p;
      before = before_now;
      ready = readied_alike (λ u. is_left N x u && not (eqb u t)) (is_left N (less x t)) N.input s' (left_none once) (record {
        takers = takers_now;
        ready = λ u.
            f.ready u ∙ ap (λ (v : Bool). v && not (eqb u t)) (ap (λ set. has set u) c.ready ∙ h.ready.ready u)
            ∙ and_swap (is_left N x u) (has s.marked (N.input u)) (not (eqb u t))
            ∙ ap (λ set. (is_left N x u && not (eqb u t)) && has set (N.input u)) (sym (f.marked ∙ c.marked));
      });
    }
