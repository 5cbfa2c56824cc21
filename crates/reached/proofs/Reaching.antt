-- What a schedule's leads lead to is what is reached.
use Rattle.std.proofs.Common.{◌≡◌, ℕ, zero, suc, ◌<◌, ◌≤◌, Bool, true, false, not, ◌&&◌, ◌||◌, eqb, ltb, Decides, sym, refl, ap, ◌∙◌, subst, inl, inr, arith}
use Rattle.std.proofs.lemmas.Bool.{cases_Bool, cases_lt, ltb-true, lt-ltb, le-ltb, eqb-true, eq-eqb, ne_eqb, cases_eq, and_parts, and_from, and_left, or_from}
use Rattle.std.proofs.lemmas.Bool.Decides.{same_from_decides}
use Rattle.theory.specs.Nets.{NetMeaning, NetLaw}
use Rattle.theory.specs.Firing.{Marking}
use Rattle.theory.specs.Tallies.{Tally, IsReached}
use Rattle.theory.specs.Tallies.IsReached.{marked, through}
use Rattle.theory.specs.Tests.{any_below, in_subnet, is_reached, is_cut_off}
use Rattle.theory.proofs.ReachRounds.{any_find, any_from, reached_decided}
use Rattle.theory.proofs.Realized.{reached_fold}
use Rattle.reached.specs.Led.{Led}
use Rattle.reached.specs.Leads.{takes, leads_to}
use Rattle.reached.proofs.Searching.{led_first, led_on}
use Rattle.reached.proofs.Flagged.{any_alike}

-- a step yields only at places of the net
pub yields_inside : (N : NetMeaning) → NetLaw N → (t p : ℕ) → 0 < N.yields t p → p < N.places
yields_inside N law t p y =
    elim (cases_lt p N.places) [ inl l ↦ l | inr h ↦ absurd (omega (arith, law.no_yield_outside_places t p h)) ]

-- no step leads outside the net
pub no_leads : (N : NetMeaning) → NetLaw N → (x : Tally) (q p : ℕ) → N.places ≤ p → leads_to N x q p ≡ false
no_leads N law x q p h = elim (cases_Bool (leads_to N x q p)) [
  | inr e ↦ e
  | inl e ↦
      let w = any_find (λ t. takes N x q t && ltb 0 (N.yields t p)) N.steps e in
      absurd (omega (arith, yields_inside N law w.0 p (ltb-true 0 (N.yields w.0 p) (and_parts (takes N x q w.0) (ltb 0 (N.yields w.0 p)) w.2).1)))
]

module _ (N : NetMeaning) (law : NetLaw N) (m : Marking) (x : Tally) (leads : ℕ → ℕ → Bool) (first : ℕ → Bool) where
  module _ (l : (q p : ℕ) → q < N.places → leads q p ≡ leads_to N x q p) (f : (p : ℕ) → first p ≡ (ltb p N.places && ltb 0 (m p))) where
    within : ℕ → Bool
    within p = ltb p N.places && is_reached N m x p

    inside : (p : ℕ) → p < N.places → IsReached N m x p → within p ≡ true
    unfolding within
    inside p k r = and_from (ltb p N.places) (is_reached N m x p) (lt-ltb p N.places k) ((reached_decided N law.inputs_inside m x p k).1 r)

    told : (p : ℕ) → within p ≡ true → (p < N.places) × IsReached N m x p
    unfolding within
    told p e =
        let a = and_parts (ltb p N.places) (is_reached N m x p) e in
        let k = ltb-true p N.places a.0 in
        (k, (reached_decided N law.inputs_inside m x p k).0 a.1)

    led_reached : (p : ℕ) → Led leads first p → (p < N.places) × IsReached N m x p
    led_reached p led =
        told p (led within
        (λ p h.
        let a = and_parts (ltb p N.places) (ltb 0 (m p)) (sym (f p) ∙ h) in
        inside p (ltb-true p N.places a.0) (marked (ltb-true 0 (m p) a.1)))
        (λ q p e h.
        let r = told q e in
        let w = any_find (λ t. takes N x q t && ltb 0 (N.yields t p)) N.steps (sym (l q p r.0) ∙ h) in
        let t : ℕ = w.0 in
        let a = and_parts (takes N x q t) (ltb 0 (N.yields t p)) w.2 in
        let b = and_parts (ltb 0 (x t)) (eqb (N.input t) q) a.0 in
        let y : 0 < N.yields t p = ltb-true 0 (N.yields t p) a.1 in
        inside p (yields_inside N law t p y)
        (through t w.1 (ltb-true 0 (x t) b.0) (subst (IsReached N m x) (sym (eqb-true (N.input t) q b.1)) r.1) y)))

    reached_led : (p : ℕ) → IsReached N m x p → p < N.places → Led leads first p
    reached_led =
        reached_fold N m x (λ p. p < N.places → Led leads first p)
        (λ p h k. led_first leads first p (f p ∙ and_from (ltb p N.places) (ltb 0 (m p)) (lt-ltb p N.places k) (lt-ltb 0 (m p) h)))
        (λ t p k h r y _.
        let q : ℕ = N.input t in
        led_on leads first q p (r (law.inputs_inside t k))
        (l q p (law.inputs_inside t k)
        ∙ any_from (λ u. takes N x q u && ltb 0 (N.yields u p)) t N.steps k
        (and_from (takes N x q t) (ltb 0 (N.yields t p))
        (and_from (ltb 0 (x t)) (eqb q q) (lt-ltb 0 (x t) h) (eq-eqb q q refl)) (lt-ltb 0 (N.yields t p) y))))

    -- a place of the net is led to exactly if it is reached
    pub led_decides : (r : Bool) (p : ℕ) → p < N.places → Decides r (Led leads first p) → Decides r (IsReached N m x p)
    led_decides r p k d = (λ e. (led_reached p (d.0 e)).1, λ h. d.1 (reached_led p h k))

-- CUT-OFF PLACES

pub input_there : (p i : ℕ) → i < 64 → (eqb p i && ltb i 64) ≡ eqb i p
input_there p i l = elim (cases_eq p i) [
  | inl e ↦ and_from (eqb p i) (ltb i 64) (eq-eqb p i e) (lt-ltb i 64 l) ∙ sym (eq-eqb i p (sym e))
  | inr d ↦ and_left (eqb p i) (ltb i 64) (ne_eqb p i d) ∙ sym (ne_eqb i p (λ e. d (sym e)))
]

module _ (N : NetMeaning) (law : NetLaw N) (m : Marking) (x : Tally) where
  abbrev by_net : ℕ → ℕ → Bool
  by_net p t = ltb 0 (x t) && (eqb (N.input t) p || ltb 0 (N.yields t p))

  outside : (p : ℕ) → N.places ≤ p → in_subnet N x p ≡ false
  outside p k = any_alike (by_net p) (λ t. false) N.steps (λ t l.
      and_nothing (ltb 0 (x t)) _
      (or_from (eqb (N.input t) p) (ltb 0 (N.yields t p))
      (ne_eqb (N.input t) p (λ e. omega (arith, law.inputs_inside t l)))
      (le-ltb 0 (N.yields t p) (omega (arith, law.no_yield_outside_places t p k))))) ∙ none N.steps
    where
      and_nothing : (v w : Bool) → w ≡ false → (v && w) ≡ false
      and_nothing true w e = e
      and_nothing false w e = refl

      none : (n : ℕ) → any_below (λ t. false) n ≡ false
      none zero = refl
      none (suc n) = none n

  pub cut_off_decided : (leads : ℕ → ℕ → Bool) (first : ℕ → Bool) →
      ((q p : ℕ) → q < N.places → leads q p ≡ leads_to N x q p) → ((p : ℕ) → first p ≡ (ltb p N.places && ltb 0 (m p))) →
      (used reached : Bool) (p : ℕ) → used ≡ in_subnet N x p → Decides reached (Led leads first p) →
      (used && not reached) ≡ (ltb p N.places && is_cut_off N m x p)
  cut_off_decided leads first here held used reached p u d =
      elim (cases_lt p N.places) [
        | inl l ↦
            ap (λ (v : Bool). v && not reached) u
            ∙ ap (λ (v : Bool). in_subnet N x p && not v)
            (same_from_decides reached (is_reached N m x p)
            (led_decides N law m x leads first here held reached p l d)
            (reached_decided N law.inputs_inside m x p l))
            ∙ sym (ap (λ (v : Bool). v && is_cut_off N m x p) (lt-ltb p N.places l))
        | inr k ↦
            ap (λ (v : Bool). v && not reached) (u ∙ outside p k)
            ∙ sym (ap (λ (v : Bool). v && is_cut_off N m x p) (le-ltb p N.places k))
      ]
