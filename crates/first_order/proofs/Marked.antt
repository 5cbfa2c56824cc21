-- The places that hold a block after a step.
use Rattle.std.proofs.Common.{◌≡◌, ℕ, ◌+◌, ◌<◌, Bool, true, false, not, ◌&&◌, ◌||◌, eqb, ltb, ◌⊎◌, sym, refl, ap, ◌∙◌, subst, inl, inr, arith}
use Rattle.std.proofs.lemmas.Bool.{cases_eq, cases_lt, lt-ltb, le-ltb, eq-eqb, ne_eqb, and_right}
use Rattle.theory.specs.Nets.{NetMeaning, NetLaw}
use Rattle.theory.specs.Firing.{Marking, one_at, fired}
use Rattle.theory.specs.Tallies.{Tally}
use Rattle.theory.proofs.TallySums.{one_tells}
use Rattle.sets.specs.Flags.{has}
use Rattle.first_order.specs.declared.schedule.Schedule.{Schedule}
use Rattle.first_order.specs.Shows.{Shows}

either_there : (a b : ℕ) → (ltb 0 a || ltb 0 b) ≡ ltb 0 (a + b)
either_there a b = elim (cases_lt 0 a) [
  | inl k ↦ ap (λ (v : Bool). v || ltb 0 b) (lt-ltb 0 a k) ∙ sym (lt-ltb 0 (a + b) (omega arith))
  | inr k ↦ ap (λ (v : Bool). v || ltb 0 b) (le-ltb 0 a k) ∙ ap (ltb 0) (omega arith)
]

and_so : (v w : Bool) → w ≡ true → (v && w) ≡ v
and_so true w e = e
and_so false w e = refl

module _ (N : NetMeaning) (law : NetLaw N) (m : Marking) (x : Tally) (s : Schedule) (h : Shows N m x s) (t : ℕ) (i : 0 < m (N.input t)) where
  -- those where the step yields, and the others that held one: all of them, or without the input place if it held one block
  pub marked_fired : (q : ℕ) (others : Bool) →
      (m (N.input t) ≡ 1 → others ≡ (has s.marked q && not (eqb q (N.input t)))) →
      ((m (N.input t) ≡ 1 → ⊥) → others ≡ has s.marked q) →
      (others || ltb 0 (N.yields t q)) ≡ (ltb q N.places && ltb 0 (fired N m t q))
  marked_fired q others one more = elim (cases_lt q N.places) [
    | inr k ↦
        let b : has s.marked q ≡ false = h.marked q ∙ ap (λ (v : Bool). v && ltb 0 (m q)) (le-ltb q N.places k) in
        ap (λ (v : Bool). v || ltb 0 (N.yields t q)) (none b)
        ∙ le-ltb 0 (N.yields t q) (omega (arith, law.no_yield_outside_places t q k))
        ∙ sym (ap (λ (v : Bool). v && ltb 0 (fired N m t q)) (le-ltb q N.places k))
    | inl k ↦
        inside (h.marked q ∙ ap (λ (v : Bool). v && ltb 0 (m q)) (lt-ltb q N.places k)) (one_tells (N.input t) q) (cases_eq (m (N.input t)) 1)
        ∙ sym (ap (λ (v : Bool). v && ltb 0 (fired N m t q)) (lt-ltb q N.places k))
  ]
    where
      none : has s.marked q ≡ false → others ≡ false
      none b = elim (cases_eq (m (N.input t)) 1) [
        | inl e ↦ one e ∙ ap (λ (v : Bool). v && not (eqb q (N.input t))) b
        | inr d ↦ more d ∙ b
      ]

      inside : has s.marked q ≡ ltb 0 (m q) →
          ((N.input t ≡ q) × (one_at (N.input t) q ≡ 1)) ⊎ ((N.input t ≡ q → ⊥) × (one_at (N.input t) q ≡ 0)) →
          (m (N.input t) ≡ 1) ⊎ (m (N.input t) ≡ 1 → ⊥) → (others || ltb 0 (N.yields t q)) ≡ ltb 0 (fired N m t q)
      inside b (inl here) (inl e) =
          let e' : m q ≡ 1 = subst (λ (u : ℕ). m u ≡ 1) here.0 e in
          ap (λ (v : Bool). v || ltb 0 (N.yields t q))
          (one e ∙ and_right (has s.marked q) (not (eqb q (N.input t))) (ap not (eq-eqb q (N.input t) (sym here.0))))
          ∙ ap (ltb 0) (omega (arith, here.1))
      inside b (inl here) (inr d) =
          let c : 1 < m q = subst (λ (u : ℕ). 1 < m u) here.0 (omega arith) in
          ap (λ (v : Bool). v || ltb 0 (N.yields t q)) (more d ∙ b ∙ lt-ltb 0 (m q) (omega arith))
          ∙ sym (lt-ltb 0 (fired N m t q) (omega (arith, here.1)))
      inside b (inr there) (inl e) =
          ap (λ (v : Bool). v || ltb 0 (N.yields t q))
          (one e ∙ and_so (has s.marked q) (not (eqb q (N.input t))) (ap not (ne_eqb q (N.input t) (λ z. there.0 (sym z)))) ∙ b)
          ∙ either_there (m q) (N.yields t q) ∙ ap (ltb 0) (omega (arith, there.1))
      inside b (inr there) (inr d) =
          ap (λ (v : Bool). v || ltb 0 (N.yields t q)) (more d ∙ b)
          ∙ either_there (m q) (N.yields t q) ∙ ap (ltb 0) (omega (arith, there.1))
