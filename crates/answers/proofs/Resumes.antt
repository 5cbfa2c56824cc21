-- When a resume is accepted, which order it takes, and why it is refused.
use Rattle.std.proofs.Common.{◌≡◌, ℕ, ◌<◌, Bool, ◌⊎◌, List, length, Some, None, Decides, Option, refl, ap, subst, inl, inr, arith}
use Rattle.std.specs.Option.{option_or, option_map}
use Rattle.std.proofs.lemmas.Bool.{cases_Bool, lt-ltb, le-ltb}
use Rattle.std.proofs.lemmas.Bool.Decides.{not_from_Decides}
use Rattle.refusals.specs.declared.Refusal.{Refusal}
use Rattle.refusals.specs.declared.Refusal.TheVariants.{Short, CutOff, Missed}
use Rattle.theory.specs.Nets.{NetMeaning, NetLaw}
use Rattle.theory.specs.Rows.{at}
use Rattle.theory.specs.Firing.{Marking, after}
use Rattle.theory.specs.Tallies.{Tally, steps_asked, IsCutOff, NoPlaceShort, NoPlaceCutOff, Realizes, Realizable}
use Rattle.theory.specs.Tallies as theory
use Rattle.theory.specs.Orders.{First, Earlier}
use Rattle.theory.specs.Tests.{least, is_short, is_cut_off}
use Rattle.theory.proofs.Realized.{length_is}
use Rattle.theory.proofs.Decided.{some_none, least_found, none_found, short_decided, cut_off_decided, done_exactly_if}
use Rattle.theory.proofs.FirstOrder.{computed_is_first}
use Rattle.answers.specs.States.{State, Target}
use Rattle.answers.specs.Answers.{size_checks, size_refusal, is_missed, cause_refusal, resume_refusal, the_order}
use Rattle.answers.specs.Reasons.{ResumeFits, WhyResume, Misses, Meets, Such}
use Rattle.answers.specs.Reasons.WhyResume.{rows_unfit, limit_reached, memory_short, spare_short, a_place_short, a_place_cut_off, a_place_missed}
use Rattle.answers.proofs.Options.{none_or, or_none, some_or, or_first, or_second, none_mapped, some_mapped, wrong_some}
use Rattle.answers.proofs.Sizes.{size_fits, fits_size, why_size, from_fit, from_unfit}
use Rattle.answers.proofs.Missed.{missed_decided, meets_from, meets_none}

-- THE LEAST NUMBER WITH A PROPERTY THAT A TEST DECIDES

module _ (b : ℕ → Bool) (P : ℕ → Type 0) (n : ℕ) (decides : (k : ℕ) → k < n → Decides (b k) (P k)) where
  none_with : least b n ≡ None → (k : ℕ) → k < n → P k → ⊥
  none_with h k l = not_from_Decides (b k) (decides k l) ((none_found b n).0 h k l)

  with_none : ((k : ℕ) → k < n → P k → ⊥) → least b n ≡ None
  with_none none = (none_found b n).1 (λ k l. elim (cases_Bool (b k)) [
    | inl e ↦ absurd (none k l ((decides k l).0 e))
    | inr e ↦ e
  ])

  least_with : (k : ℕ) → least b n ≡ Some k → (k < n) × P k × ((j : ℕ) → j < k → P j → ⊥)
  least_with k h =
      let f = (least_found b n k).0 h in (
        f.inside,
        (decides k f.inside).0 f.passes,
        λ j l. not_from_Decides (b j) (decides j (below f.inside l)) (f.least j l),
      )
    where
      below : {i k : ℕ} → k < n → i < k → i < n
      below h l = omega arith

  with_least : (k : ℕ) → k < n → P k → ((j : ℕ) → j < k → P j → ⊥) → least b n ≡ Some k
  with_least k l p none =
      (least_found b n k).1 (record {
        inside = l;
        passes = (decides k l).1 p;
        least = λ j h. elim (cases_Bool (b j)) [
          | inl e ↦ absurd (none j h ((decides j (omega arith)).0 e))
          | inr e ↦ e
        ];
      })

-- the three causes in their order find nothing
three_none : (a b c : Option ℕ) → option_or (option_map Short a) (option_or (option_map CutOff b) (option_map Missed c)) ≡ None →
    (a ≡ None) × (b ≡ None) × (c ≡ None)
three_none None None None h = (refl, refl, refl)
three_none None None (Some p) h = absurd (some_none (Missed p) h)
three_none None (Some p) c h = absurd (some_none (CutOff p) h)
three_none (Some p) b c h = absurd (some_none (Short p) h)

module _ (N : NetMeaning) (law : NetLaw N) (m : Marking) (x : Tally) (target : Target) where
  -- the two conditions on the places, as their tests have them
  none_short : least (is_short N m x) N.places ≡ None → NoPlaceShort N m x
  none_short = none_with (is_short N m x) (theory.IsShort N m x) N.places (λ p _. short_decided N m x p)

  none_cut_off : least (is_cut_off N m x) N.places ≡ None → NoPlaceCutOff N m x
  none_cut_off = none_with (is_cut_off N m x) (IsCutOff N m x) N.places (cut_off_decided N law.inputs_inside m x)

  short_none : NoPlaceShort N m x → least (is_short N m x) N.places ≡ None
  short_none = with_none (is_short N m x) (theory.IsShort N m x) N.places (λ p _. short_decided N m x p)

  cut_off_none : NoPlaceCutOff N m x → least (is_cut_off N m x) N.places ≡ None
  cut_off_none = with_none (is_cut_off N m x) (IsCutOff N m x) N.places (cut_off_decided N law.inputs_inside m x)

  can_be_done : least (is_short N m x) N.places ≡ None → least (is_cut_off N m x) N.places ≡ None → Realizable N m x
  can_be_done a b = (done_exactly_if N law.inputs_inside m x).1 (none_short a, none_cut_off b)

  -- past the first two causes a place is missed where every order misses it
  module _ (known : target.kind < 2) (order : List ℕ) (r : Realizes N m x order) where
    none_missed : least (is_missed N m x target) N.places ≡ None → Meets N target (after N m order)
    none_missed h =
        meets_from N target (after N m order) known
        (none_with (is_missed N m x target) (Misses target (after N m order)) N.places
        (λ p _. missed_decided N m x target p known order r) h)

    missed_none : Meets N target (after N m order) → least (is_missed N m x target) N.places ≡ None
    missed_none h =
        with_none (is_missed N m x target) (Misses target (after N m order)) N.places
        (λ p _. missed_decided N m x target p known order r) (meets_none N target (after N m order) h)

    least_missed : (p : ℕ) → least (is_missed N m x target) N.places ≡ Some p →
        (p < N.places) × Misses target (after N m order) p × ((q : ℕ) → q < p → Misses target (after N m order) q → ⊥)
    least_missed =
        least_with (is_missed N m x target) (Misses target (after N m order)) N.places
        (λ p _. missed_decided N m x target p known order r)

module _ (N : NetMeaning) (law : NetLaw N) (s : State) (tally : List ℕ) (target : Target) (memory : ℕ) where
  -- ACCEPTED

  -- none of the three tests finds a place
  no_cause : resume_refusal N s tally target memory ≡ None →
      (least (is_short N s.counts (at tally)) N.places ≡ None)
      × (least (is_cut_off N s.counts (at tally)) N.places ≡ None)
      × (least (is_missed N s.counts (at tally) target) N.places ≡ None)
  no_cause h =
      three_none (least (is_short N s.counts (at tally)) N.places) (least (is_cut_off N s.counts (at tally)) N.places)
      (least (is_missed N s.counts (at tally) target) N.places)
      (none_or (size_refusal N s tally target memory) (cause_refusal N s.counts (at tally) target) h).1

  first_now : resume_refusal N s tally target memory ≡ None → First N s.counts (at tally) (the_order N s tally)
  first_now h =
      let c = no_cause h in
      computed_is_first N law.inputs_inside s.counts (at tally) (can_be_done N law s.counts (at tally) target c.0 c.1)

  pub fits_now : resume_refusal N s tally target memory ≡ None → ResumeFits N s tally target memory
  fits_now h =
      size_fits N s tally target memory
      (none_or (size_refusal N s tally target memory) (cause_refusal N s.counts (at tally) target) h).0

  pub such_now : resume_refusal N s tally target memory ≡ None → Such N s tally target (the_order N s tally)
  such_now h =
      let r = (first_now h).realizes in (
        r,
        none_missed N law s.counts (at tally) target (fits_now h).rows.known_kind (the_order N s tally) r (no_cause h).2,
      )

  pub later_now : resume_refusal N s tally target memory ≡ None → (other : List ℕ) → Such N s tally target other →
      (the_order N s tally ≡ other) ⊎ Earlier (the_order N s tally) other
  later_now h other o = (first_now h).before_others other o.0

  pub long_now : resume_refusal N s tally target memory ≡ None → length (the_order N s tally) ≡ steps_asked N (at tally)
  long_now h = length_is N s.counts (at tally) (the_order N s tally) (first_now h).realizes

  pub accepts : ResumeFits N s tally target memory → (order : List ℕ) → Such N s tally target order →
      resume_refusal N s tally target memory ≡ None
  accepts f order o =
      let m : Marking = s.counts in
      let x : Tally = at tally in
      let both = (done_exactly_if N law.inputs_inside m x).0 (order, o.0) in
      or_none _ _ (fits_size N s tally target memory f)
      (or_none _ _ (ap (option_map Short) (short_none N law m x target both.0))
      (or_none _ _ (ap (option_map CutOff) (cut_off_none N law m x target both.1))
      (ap (option_map Missed) (missed_none N law m x target f.rows.known_kind order o.0 o.1))))

  -- REFUSED

  -- the least place that a test finds, where the tests before it found none
  abbrev CauseIs : Refusal → Type 0
  CauseIs e =
      ((p : ℕ) × (least (is_short N s.counts (at tally)) N.places ≡ Some p) × (Short p ≡ e))
      ⊎ ((least (is_short N s.counts (at tally)) N.places ≡ None)
      × (((p : ℕ) × (least (is_cut_off N s.counts (at tally)) N.places ≡ Some p) × (CutOff p ≡ e))
      ⊎ ((least (is_cut_off N s.counts (at tally)) N.places ≡ None)
      × ((p : ℕ) × (least (is_missed N s.counts (at tally) target) N.places ≡ Some p) × (Missed p ≡ e)))))

  cause_is : (e : Refusal) → cause_refusal N s.counts (at tally) target ≡ Some e → CauseIs e
  cause_is e h =
      elim (some_or _ _ e h) [
        | inl a ↦ inl (some_mapped Short _ e a)
        | inr a ↦ inr (
          none_mapped Short _ a.0,
          elim (some_or _ _ e a.1) [
            | inl b ↦ inl (some_mapped CutOff _ e b)
            | inr b ↦ inr (none_mapped CutOff _ b.0, some_mapped Missed _ e b.1)
          ],
        )
      ]

  why_cause : (e : Refusal) → ResumeFits N s tally target memory → CauseIs e → WhyResume N s tally target memory e
  why_cause e f (inl (p, h, q)) =
      let w = least_with (is_short N s.counts (at tally)) (theory.IsShort N s.counts (at tally)) N.places
      (λ k _. short_decided N s.counts (at tally) k) p h in
      subst (WhyResume N s tally target memory) q
      (a_place_short p f (record { inside = w.0; short = w.1; least = w.2 }))
  why_cause e f (inr (z, inl (p, h, q))) =
      let w = least_with (is_cut_off N s.counts (at tally)) (IsCutOff N s.counts (at tally)) N.places
      (cut_off_decided N law.inputs_inside s.counts (at tally)) p h in
      subst (WhyResume N s tally target memory) q
      (a_place_cut_off p f (record {
        inside = w.0;
        none_short = none_short N law s.counts (at tally) target z;
        cut_off = w.1;
        least = w.2;
      }))
  why_cause e f (inr (z, inr (y, (p, h, q)))) =
      let r = can_be_done N law s.counts (at tally) target z y in
      let w = least_missed N law s.counts (at tally) target f.rows.known_kind in
      subst (WhyResume N s tally target memory) q
      (a_place_missed p f (record {
        inside = (w r.0 r.1 p h).0;
        can_be_done = r;
        misses = λ order o. (w order o p h).1;
        least = λ order o. (w order o p h).2;
      }))

  pub why_resume : (e : Refusal) → resume_refusal N s tally target memory ≡ Some e → WhyResume N s tally target memory e
  why_resume e h =
      elim (some_or _ _ e h) [
        | inl w ↦ why_size N s tally target memory e w
        | inr w ↦ why_cause e (size_fits N s tally target memory w.0) (cause_is e w.1)
      ]

  pub resume_why : {e : Refusal} → WhyResume N s tally target memory e → resume_refusal N s tally target memory ≡ Some e
  resume_why (rows_unfit u) =
      or_first _ _ _ (wrong_some (size_checks N s tally target memory) _ (inl (from_unfit N tally target u, refl)))
  resume_why (limit_reached f b) =
      or_first _ _ _ (wrong_some (size_checks N s tally target memory) _
      (inr (from_fit N tally target f, inl (lt-ltb _ _ b, refl))))
  resume_why (memory_short f b c) =
      or_first _ _ _ (wrong_some (size_checks N s tally target memory) _
      (inr (from_fit N tally target f, inr (le-ltb _ _ b, inl (lt-ltb _ _ c, refl)))))
  resume_why (spare_short f b c d) =
      or_first _ _ _ (wrong_some (size_checks N s tally target memory) _
      (inr (from_fit N tally target f, inr (le-ltb _ _ b, inr (le-ltb _ _ c, inl (lt-ltb _ _ d, refl))))))
  resume_why (a_place_short p f w) =
      or_second _ _ _ (fits_size N s tally target memory f)
      (or_first _ _ _ (ap (option_map Short)
      (with_least (is_short N s.counts (at tally)) (theory.IsShort N s.counts (at tally)) N.places
      (λ k _. short_decided N s.counts (at tally) k) p w.inside w.short w.least)))
  resume_why (a_place_cut_off p f w) =
      or_second _ _ _ (fits_size N s tally target memory f)
      (or_second _ _ _ (ap (option_map Short) (short_none N law s.counts (at tally) target w.none_short))
      (or_first _ _ _ (ap (option_map CutOff)
      (with_least (is_cut_off N s.counts (at tally)) (IsCutOff N s.counts (at tally)) N.places
      (cut_off_decided N law.inputs_inside s.counts (at tally)) p w.inside w.cut_off w.least))))
  resume_why (a_place_missed p f w) =
      let both = (done_exactly_if N law.inputs_inside s.counts (at tally)).0 w.can_be_done in
      let order : List ℕ = w.can_be_done.0 in
      let r = w.can_be_done.1 in
      or_second _ _ _ (fits_size N s tally target memory f)
      (or_second _ _ _ (ap (option_map Short) (short_none N law s.counts (at tally) target both.0))
      (or_second _ _ _ (ap (option_map CutOff) (cut_off_none N law s.counts (at tally) target both.1))
      (ap (option_map Missed)
      (with_least (is_missed N s.counts (at tally) target) (Misses target (after N s.counts order)) N.places
      (λ k _. missed_decided N s.counts (at tally) target k f.rows.known_kind order r) p
      w.inside (w.misses order r) (w.least order r)))))
