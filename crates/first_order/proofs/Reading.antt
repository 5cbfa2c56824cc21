-- A net, counts and a tally that are read into a schedule, step by step.
use Rattle.std.proofs.Common.{◌≡◌, ℕ, ◌+◌, ◌<◌, ◌≤◌, Bool, true, false, ◌&&◌, ◌||◌, eqb, ltb, List, length, set, sym, refl, ap, ◌∙◌, subst, inl, inr, arith}
use Rattle.std.proofs.lemmas.Bool.{cases_eq, le-ltb}
use Rattle.std.proofs.lemmas.Bool.Decides.{nat_tests}
use Rattle.std.proofs.lemmas.List.{get_or-set_same, get_or-set_other, length-set}
use Rattle.theory.specs.Nets.{NetMeaning, NetLaw}
use Rattle.theory.specs.Rows.{at}
use Rattle.theory.specs.Firing.{Marking}
use Rattle.theory.specs.Tallies.{Tally}
use Rattle.theory.specs.Tests.{any_below}
use Rattle.sets.specs.Flags.{has}
use Rattle.sets.proofs.FlagLaws.{has_none}
use Rattle.nets.proofs.FilledTo.{FilledTo, filled_more, filled_all}
use Rattle.reached.specs.Led.{has_at}
use Rattle.reached.specs.Leads.{takes}
use Rattle.reached.proofs.Flagged.{any_joined, same_eqb}
use Rattle.first_order.specs.declared.schedule.Schedule.{Schedule}
use Rattle.first_order.specs.Tables.{Asked, Fresh}
use Rattle.first_order.specs.Shows.{Shows, is_left}

-- the steps below n are read
pub record ReadTo (N : NetMeaning) (m : Marking) (x : Tally) (n : ℕ) (s : Schedule) : Type 0 where
  pub long : length s.left ≡ 128
  pub left : (t : ℕ) → t < n → at s.left t ≡ x t
  pub inputs : FilledTo (λ t v. v ≡ N.input t) 0 0 128 n s.inputs
  pub yields : FilledTo (λ t w. (p : ℕ) → has w p ≡ ltb 0 (N.yields t p)) 0 0 128 n s.yields
  pub counts : (p : ℕ) → at s.counts p ≡ m p
  pub marked : (p : ℕ) → has s.marked p ≡ (ltb p N.places && ltb 0 (m p))
  pub takers : (p t : ℕ) → has_at s.takers p t ≡ ((ltb t n && ltb 0 (x t)) && eqb (N.input t) p)
  pub before : (p q : ℕ) → has_at s.origins.before p q ≡ any_below (λ t. takes N x q t && ltb 0 (N.yields t p)) n

empty_row : (row : List ℕ) (i q : ℕ) → at row i ≡ 0 → has_at row i q ≡ false
empty_row row i q e = ap (λ (w : ℕ). has w q) e ∙ has_none q

-- the two differ at most in the counts and in the places that are marked
pub record Unread (s s' : Schedule) : Type 0 where
  pub inputs : s'.inputs ≡ s.inputs
  pub yields : s'.yields ≡ s.yields
  pub takers : s'.takers ≡ s.takers
  pub before : s'.origins.before ≡ s.origins.before

pub read_none : (N : NetMeaning) (m : Marking) (x : Tally) (s s' : Schedule) → Fresh s → Unread s s' →
    length s'.left ≡ 128 → length s'.inputs ≡ 128 → length s'.yields ≡ 128 → ((p : ℕ) → at s'.counts p ≡ m p) →
    ((p : ℕ) → has s'.marked p ≡ (ltb p N.places && ltb 0 (m p))) → ReadTo N m x 0 s'
read_none N m x s s' f e left inputs yields counts marked = record {
  long = left;
  left = λ t h. absurd (omega arith);
  inputs = record { long = inputs; filled = λ k h. absurd (omega arith); ahead = λ k _ _. ap (λ row. at row k) e.inputs ∙ f.inputs k };
  yields = record { long = yields; filled = λ k h. absurd (omega arith); ahead = λ k _ _. ap (λ row. at row k) e.yields ∙ f.yields k };
  counts = counts;
  marked = marked;
  takers = λ p t.
      ap (λ row. has_at row p t) e.takers ∙ empty_row s.takers p t (f.takers p)
      ∙ sym (ap (λ (v : Bool). (v && ltb 0 (x t)) && eqb (N.input t) p) (le-ltb t 0 (omega arith)));
  before = λ p q. ap (λ row. has_at row p q) e.before ∙ empty_row s.origins.before p q (f.before p);
}

-- the rows of one step are written
pub record Wrote (s : Schedule) (i place places times : ℕ) (s' : Schedule) : Type 0 where
  pub left : s'.left ≡ set s.left i times
  pub inputs : s'.inputs ≡ set s.inputs i place
  pub yields : s'.yields ≡ set s.yields i places
  pub counts : s'.counts ≡ s.counts
  pub marked : s'.marked ≡ s.marked
  pub takers : s'.takers ≡ s.takers
  pub before : s'.origins.before ≡ s.origins.before

one_taker : (x input : ℕ → ℕ) (n p t : ℕ) →
    (((ltb t n && ltb 0 (x t)) && eqb (input t) p) || (ltb 0 (x n) && (eqb p (input n) && eqb t n)))
    ≡ ((ltb t (n + 1) && ltb 0 (x t)) && eqb (input t) p)
one_taker x input n p t = grind (arith, nat_tests)

regroup : (a y e : Bool) → (a && (y && e)) ≡ ((a && e) && y)
regroup true true true = refl
regroup true true false = refl
regroup true false true = refl
regroup true false false = refl
regroup false y e = refl

module _ (N : NetMeaning) (m : Marking) (x : Tally) (n : ℕ) (s : Schedule) (r : ReadTo N m x n s) (few : n < 128)
    (i place places times : ℕ) (there : i ≡ n) (input_is : place ≡ N.input n) (yields_are : (p : ℕ) → has places p ≡ ltb 0 (N.yields n p)) (left_is : times ≡ x n)
    (s₁ : Schedule) (w : Wrote s i place places times s₁) (s₂ : Schedule) (a : Asked s₁ n s₂) where
  rows_inputs : FilledTo (λ t v. v ≡ N.input t) 0 0 128 (n + 1) s₁.inputs
  rows_inputs = subst (FilledTo (λ t v. v ≡ N.input t) 0 0 128 (n + 1)) (sym w.inputs) (filled_more _ 0 0 128 n s.inputs r.inputs few i place there input_is)

  rows_yields : FilledTo (λ t w. (p : ℕ) → has w p ≡ ltb 0 (N.yields t p)) 0 0 128 (n + 1) s₁.yields
  rows_yields = subst (FilledTo (λ t w. (p : ℕ) → has w p ≡ ltb 0 (N.yields t p)) 0 0 128 (n + 1)) (sym w.yields) (filled_more _ 0 0 128 n s.yields r.yields few i places there yields_are)

  left_there : at s₁.left n ≡ x n
  left_there =
      ap (λ row. at row n) w.left
      ∙ ap (at (set s.left i times)) (sym there) ∙ get_or-set_same s.left i times 0 (omega (arith, r.long)) ∙ left_is

  left_now : (t : ℕ) → t < n + 1 → at s₁.left t ≡ x t
  left_now t l = elim (cases_eq t n) [
    | inl e ↦ subst (λ (u : ℕ). at s₁.left u ≡ x u) (sym e) left_there
    | inr d ↦
        ap (λ row. at row t) w.left
        ∙ get_or-set_other s.left i t times 0 (λ e. d (e ∙ there)) ∙ r.left t (omega (arith, d))
  ]

  pub read_more : ReadTo N m x (n + 1) s₂
  read_more = record {
    long = ap length (a.left ∙ w.left) ∙ length-set s.left i times ∙ r.long;
    left = λ t l. ap (λ row. at row t) a.left ∙ left_now t l;
    inputs = subst (FilledTo (λ t v. v ≡ N.input t) 0 0 128 (n + 1)) (sym a.inputs) rows_inputs;
    yields = subst (FilledTo (λ t w. (p : ℕ) → has w p ≡ ltb 0 (N.yields t p)) 0 0 128 (n + 1)) (sym a.yields) rows_yields;
    counts = λ p. ap (λ row. at row p) (a.counts ∙ w.counts) ∙ r.counts p;
    marked = λ p. ap (λ set. has set p) (a.marked ∙ w.marked) ∙ r.marked p;
    takers = λ p t.
        a.takers p t
        ∙ ap (λ row. has_at row p t || (ltb 0 (at s₁.left n) && (eqb p (at s₁.inputs n) && eqb t n))) w.takers
        ∙ ap (λ (v : Bool). v || (ltb 0 (at s₁.left n) && (eqb p (at s₁.inputs n) && eqb t n))) (r.takers p t)
        ∙ ap (λ (v : ℕ). ((ltb t n && ltb 0 (x t)) && eqb (N.input t) p) || (ltb 0 v && (eqb p (at s₁.inputs n) && eqb t n))) left_there
        ∙ ap (λ (v : ℕ). ((ltb t n && ltb 0 (x t)) && eqb (N.input t) p) || (ltb 0 (x n) && (eqb p v && eqb t n))) (rows_inputs.filled n (omega arith))
        ∙ one_taker x N.input n p t;
    before = λ p q.
        a.before p q
        ∙ ap (λ row. has_at row p q || (ltb 0 (at s₁.left n) && (has_at s₁.yields n p && eqb q (at s₁.inputs n)))) w.before
        ∙ any_joined (λ t. takes N x q t && ltb 0 (N.yields t p)) n (has_at s.origins.before p q) _ (r.before p q)
        (ap (λ (v : ℕ). ltb 0 v && (has_at s₁.yields n p && eqb q (at s₁.inputs n))) left_there
        ∙ ap (λ (v : Bool). ltb 0 (x n) && (v && eqb q (at s₁.inputs n))) (rows_yields.filled n (omega arith) p)
        ∙ ap (λ (v : ℕ). ltb 0 (x n) && (ltb 0 (N.yields n p) && eqb q v)) (rows_inputs.filled n (omega arith))
        ∙ ap (λ (v : Bool). ltb 0 (x n) && (ltb 0 (N.yields n p) && v)) (same_eqb q (N.input n))
        ∙ regroup (ltb 0 (x n)) (ltb 0 (N.yields n p)) (eqb (N.input n) q));
  }

-- the two differ at most in the steps that are ready
pub record ButReady (s s' : Schedule) : Type 0 where
  pub left : s'.left ≡ s.left
  pub inputs : s'.inputs ≡ s.inputs
  pub yields : s'.yields ≡ s.yields
  pub counts : s'.counts ≡ s.counts
  pub marked : s'.marked ≡ s.marked
  pub takers : s'.takers ≡ s.takers
  pub before : s'.origins.before ≡ s.origins.before

-- all steps are read
module _ (N : NetMeaning) (law : NetLaw N) (m : Marking) (x : Tally) (n : ℕ) (s : Schedule) (r : ReadTo N m x n s) (all : n ≡ N.steps) where
  pub takers_read : (p t : ℕ) → has_at s.takers p t ≡ (is_left N x t && eqb (N.input t) p)
  takers_read p t = r.takers p t ∙ ap (λ (k : ℕ). (ltb t k && ltb 0 (x t)) && eqb (N.input t) p) all

  none_past : (t p : ℕ) → N.steps ≤ t → has 0 p ≡ ltb 0 (N.yields t p)
  none_past t p h = has_none p ∙ sym (le-ltb 0 (N.yields t p) (omega (arith, law.no_yield_outside_steps t p h)))

  pub read_all : (s' : Schedule) → ButReady s s' → ((t : ℕ) → has s'.ready t ≡ (is_left N x t && has s.marked (N.input t))) → Shows N m x s'
  read_all s' e ready = record {
    left = λ t l. ap (λ row. at row t) e.left ∙ r.left t (omega arith);
    inputs = λ t. ap (λ row. at row t) e.inputs
        ∙ filled_all _ 0 0 128 n s.inputs r.inputs
        (λ k h. sym (law.no_input_outside_steps k (omega arith))) (λ k h. sym (law.no_input_outside_steps k (omega (arith, law.few_steps)))) t;
    yields = λ t p. ap (λ row. has_at row t p) e.yields
        ∙ filled_all (λ t w. (p : ℕ) → has w p ≡ ltb 0 (N.yields t p)) 0 0 128 n s.yields r.yields
        (λ k h p. none_past k p (omega arith)) (λ k h p. none_past k p (omega (arith, law.few_steps))) t p;
    counts = λ p. ap (λ row. at row p) e.counts ∙ r.counts p;
    marked = λ p. ap (λ set. has set p) e.marked ∙ r.marked p;
    before = λ p q.
        ap (λ row. has_at row p q) e.before
        ∙ (r.before p q ∙ ap (any_below (λ t. takes N x q t && ltb 0 (N.yields t p))) all);
    ready = record {
      takers = λ p t. ap (λ row. has_at row p t) e.takers ∙ takers_read p t;
      ready = λ t. ready t ∙ ap (λ set. is_left N x t && has set (N.input t)) (sym e.marked);
    };
  }
