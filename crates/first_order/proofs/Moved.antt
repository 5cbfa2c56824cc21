-- The blocks after a take and after the yields of a step.
use Rattle.std.proofs.Common.{◌≡◌, ℕ, ◌+◌, ◌-◌, ◌<◌, Bool, true, false, not, cond, ◌&&◌, ◌||◌, eqb, ltb, List, length, set, subst, sym, ap, ◌∙◌, inl, inr, arith}
use Rattle.std.proofs.lemmas.List.{get_or-set_same, get_or-set_other}
use Rattle.std.proofs.lemmas.Bool.{cases_eq, eq-eqb, ne_eqb, or_right, cond-true, cond-false}
use Rattle.std.proofs.Math.Bool.{or-false}
use Rattle.theory.specs.Nets.{NetMeaning}
use Rattle.theory.specs.Rows.{at}
use Rattle.theory.specs.Firing.{Marking, one_at}
use Rattle.theory.specs.Tallies.{Tally}
use Rattle.theory.specs.Laws.{IsLeast}
use Rattle.sets.specs.Flags.{has}
use Rattle.sets.proofs.Passed.{passed, one_passed, first_not_passed}
use Rattle.first_order.specs.declared.schedule.Schedule.{Schedule}
use Rattle.first_order.specs.Shows.{Shows}
use Rattle.theory.proofs.TallySums.{one_tells}

-- a schedule shows the same where the marking is said in another way
pub shows_alike : (N : NetMeaning) (m m' : Marking) (x : Tally) (s : Schedule) → ((p : ℕ) → m' p ≡ m p) → Shows N m x s → Shows N m' x s
shows_alike N m m' x s e h = record {
  left = h.left;
  inputs = h.inputs;
  yields = h.yields;
  counts = λ p. h.counts p ∙ sym (e p);
  marked = λ p. h.marked p ∙ ap (λ (v : ℕ). ltb p N.places && ltb 0 v) (sym (e p));
  before = h.before;
  ready = h.ready;
}

-- what is put down before a block is taken may be put down after it
pub taken_last : (m y : Marking) (i p : ℕ) → 0 < m i → (m p - one_at i p) + y p ≡ (m p + y p) - one_at i p
taken_last m y i p some = elim (one_tells i p) [
  | inl here ↦ let some' : 0 < m p = subst (λ (u : ℕ). 0 < m u) here.0 some in omega (arith, here.1)
  | inr there ↦ omega (arith, there.1)
]

-- the counts with what is yielded at one place more of a set
module _ (places rest rest' k : ℕ) (first : IsLeast (has rest) 64 k) (inside : (p : ℕ) → has rest p ≡ true → has places p ≡ true)
    (less : (p : ℕ) → has rest' p ≡ (has rest p && not (eqb p k))) (row : List ℕ) (was y : ℕ → ℕ) (i v : ℕ) where
  pub yield_added : i ≡ k → i < length row → v ≡ y k → ((p : ℕ) → at row p ≡ was p + cond (passed places rest p) (y p) 0) →
      (p : ℕ) → at (set row i (at row i + v)) p ≡ was p + cond (passed places rest' p) (y p) 0
  yield_added there l e have p = elim (cases_eq p i) [
    | inl same ↦
        subst (λ (q : ℕ). at (set row i (at row i + v)) q ≡ was q + cond (passed places rest' q) (y q) 0) (sym same)
        (get_or-set_same row i (at row i + v) 0 l
        ∙ omega (arith, have i, e, ap y there, cond-false (passed places rest i) (y i) 0 not_yet, cond-true (passed places rest' i) (y i) 0 now))
    | inr other ↦
        get_or-set_other row i p (at row i + v) 0 other
        ∙ (have p ∙ ap (λ (b : Bool). was p + cond b (y p) 0) (sym (one_passed 64 places rest rest' k first inside less p ∙ (ap (λ (b : Bool). passed places rest p || b) (ne_eqb p k (λ f. other (f ∙ sym there))) ∙ or-false (passed places rest p)))))
  ]
    where
      not_yet : passed places rest i ≡ false
      not_yet = ap (passed places rest) there ∙ first_not_passed 64 places rest k first

      now : passed places rest' i ≡ true
      now = one_passed 64 places rest rest' k first inside less i ∙ or_right (passed places rest i) (eqb i k) (eq-eqb i k there)
