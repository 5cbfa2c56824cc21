-- An order that is being found and written: what was found so far, and what is left.
use Rattle.std.proofs.Common.{◌≡◌, ℕ, ◌+◌, ◌<◌, ◌≤◌, List, [], ◌∷◌, ◌++◌, length, Some, Result, sym, refl, ap, ◌∙◌, true≢false, append_assoc, inl, inr, arith, length-append}
use Rattle.std.proofs.lemmas.Bool.{cases_lt}
use Rattle.std.proofs.lemmas.List.{append-nil}
use Rattle.boards.specs.Boards.{board_limit}
use Rattle.refusals.specs.declared.Refusal.{Refusal}
use Rattle.theory.specs.Nets.{NetMeaning, NetLaw}
use Rattle.theory.specs.Firing.{Marking, fired}
use Rattle.theory.specs.Tallies.{Tally, Realizable, steps_asked}
use Rattle.theory.specs.Orders.{less, IsSafe}
use Rattle.theory.specs.Tests.{least, is_safe, first_order}
use Rattle.theory.proofs.SumLaws.{le_sum_to}
use Rattle.theory.proofs.TallySums.{sum_less, total_less}
use Rattle.theory.proofs.Decided.{done_exactly_if, safe_decided, least_found}
use Rattle.theory.proofs.FirstOrder.{first_order_goes_on, first_order_ends}
use Rattle.answers.specs.States.{yields_of, yields_asked}
use Rattle.bounded_list.specs.Lists.{Adds}
use Rattle.bounded_list.proofs.Written.{Written, written_none, written_more}
use Rattle.first_order.specs.declared.schedule.Schedule.{Schedule}
use Rattle.first_order.specs.Shows.{Shows}

-- after k steps of the first order of x₀ from m₀, into this lent memory
pub record Going (N : NetMeaning) (m₀ : Marking) (x₀ : Tally) (lent : List ℕ) (k : ℕ)
    (schedule : Schedule) (memory : List ℕ) (len : ℕ) : Type 0 where
  pub marking : Marking
  pub tally : Tally
  pub order : List ℕ
  pub shows : Shows N marking tally schedule
  pub can : Realizable N marking tally
  pub fits : (p : ℕ) → marking p + yields_asked N tally ≤ board_limit
  pub goes_on : first_order N m₀ x₀ ≡ order ++ first_order N marking tally
  pub left : steps_asked N tally + k ≡ steps_asked N x₀
  pub long : length order ≡ k
  pub written : Written lent order memory len

pub going_none :
    (N : NetMeaning) (m : Marking) (x : Tally) (lent : List ℕ) (s : Schedule) →
    Shows N m x s → Realizable N m x → ((p : ℕ) → m p + yields_asked N x ≤ board_limit) → Going N m x lent 0 s lent 0
going_none N m x lent s shows can fits = record {
  marking = m;
  tally = x;
  order = [];
  shows = shows;
  can = can;
  fits = fits;
  goes_on = refl;
  left = omega arith;
  long = refl;
  written = written_none lent;
}

-- of a tally that can be done, the least step found is safe, and none below it is
pub found_safe :
    (N : NetMeaning) → NetLaw N → (m : Marking) (x : Tally) (t : ℕ) → Realizable N m x → least (is_safe N m x) N.steps ≡ Some t →
    IsSafe N m x t × ((u : ℕ) → u < t → IsSafe N m x u → ⊥)
found_safe N law m x t can e =
    let inside = law.inputs_inside in
    let short = ((done_exactly_if N inside m x).0 can).0 in
    let found = (least_found (is_safe N m x) N.steps t).0 e in (
      (safe_decided N inside m x short t).0 found.passes,
      λ u h s. true≢false (sym ((safe_decided N inside m x short u).1 s) ∙ found.least u h),
    )

-- what one firing of a step of the tally yields, at a place and in all
pub asked_less : (N : NetMeaning) (x : Tally) (t : ℕ) → t < N.steps → 0 < x t → yields_asked N x ≡ yields_asked N (less x t) + yields_of N t
asked_less N x t h k = sum_less x (yields_of N) t N.steps h k

pub yields_at_most : (N : NetMeaning) → NetLaw N → (t p : ℕ) → N.yields t p ≤ yields_of N t
yields_at_most N law t p = elim (cases_lt p N.places) [
  | inl l ↦ le_sum_to (N.yields t) N.places p l
  | inr k ↦ omega (arith, law.no_yield_outside_places t p k)
]

-- one step more: it is the least safe one, its blocks are moved, it is counted down and written
pub going_more :
    {X : Type 0} (N : NetMeaning) → NetLaw N →
    (m₀ : Marking) (x₀ : Tally) (lent : List ℕ) (k : ℕ) (s : Schedule) (memory : List ℕ) (len : ℕ) →
    (g : Going N m₀ x₀ lent k s memory len) →
    (t : ℕ) → IsSafe N g.marking g.tally t → ((u : ℕ) → u < t → IsSafe N g.marking g.tally u → ⊥) →
    (s' : Schedule) → Shows N (fired N g.marking t) (less g.tally t) s' →
    (r : Result X Refusal) (memory' : List ℕ) (len' : ℕ) → k < length lent → Adds t memory len r memory' len' →
    Going N m₀ x₀ lent (k + 1) s' memory' len'
going_more N law m₀ x₀ lent k s memory len g t safe-now least-now s' shows' r memory' len' room adds =
    let m = g.marking in
    let x = g.tally in
    let order = g.order in
    let step = safe-now.0 in
    let some = safe-now.1 in
    record {
      marking = fired N m t;
      tally = less x t;
      order = order ++ (t ∷ []);
      shows = shows';
      can = safe-now.3;
      fits = λ p. omega (arith, g.fits p, asked_less N x t step some, yields_at_most N law t p);
      goes_on =
          g.goes_on
          ∙ ap (λ z. order ++ z) (first_order_goes_on N law.inputs_inside m x t safe-now least-now)
          ∙ sym (append_assoc order (t ∷ []) (first_order N (fired N m t) (less x t)));
      left = omega (arith, g.left, total_less x t N.steps step some);
      long = length-append order (t ∷ []) ∙ ap (λ z. z + 1) g.long;
      written = written_more t lent order memory len r memory' len' g.written (omega (arith, g.long)) adds;
    }

-- no step is left: the order is the whole first order
pub going_all :
    (N : NetMeaning) (m₀ : Marking) (x₀ : Tally) (lent : List ℕ) (k : ℕ) (s : Schedule) (memory : List ℕ) (len : ℕ) →
    (g : Going N m₀ x₀ lent k s memory len) → k ≡ steps_asked N x₀ → g.order ≡ first_order N m₀ x₀
going_all N m₀ x₀ lent k s memory len g e =
    let x = g.tally in
    let none : (t : ℕ) → t < N.steps → x t ≡ 0 = λ t h. omega (arith, le_sum_to x N.steps t h, g.left) in
    sym (g.goes_on ∙ ap (λ z. g.order ++ z) (first_order_ends N g.marking x none) ∙ append-nil g.order)
