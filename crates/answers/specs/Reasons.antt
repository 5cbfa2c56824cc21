-- When each call is accepted, and why it is refused, as conditions on the net, the marking and the sizes.
use Rattle.std.specs.Prelude.{◌≡◌, ℕ, ◌+◌, ◌<◌, ◌≤◌, ◌⊎◌, ◌↔◌, List, [], ◌∷◌}
use Rattle.std.specs.Prelude.{◌++◌, map, length, Contains, ℤ, pos, ◌+ℤ◌, ◌<ℤ◌, ◌≢◌}
use Rattle.std.specs.List.Sorted.{IsStrictlyIncreasing}
use Rattle.refusals.specs.declared.Refusal.{Refusal}
use Rattle.refusals.specs.declared.Refusal.TheVariants.{RowsUnfit, DoneLimit, OrderMemoryShort, SpareShort, Short}
use Rattle.refusals.specs.declared.Refusal.TheVariants.{CutOff, Missed, NoSuchStep, InputEmpty, ListFull}
use Rattle.theory.specs.Nets.{NetMeaning}
use Rattle.theory.specs.Rows.{at}
use Rattle.theory.specs.Firing.{Marking, after}
use Rattle.theory.specs.Tallies as theory
use Rattle.theory.specs.Tallies.{Tally, steps_asked, final_number, IsCutOff, NoPlaceShort, Realizes, Realizable}
use Rattle.answers.specs.declared.Cause.{Cause}
use Rattle.answers.specs.declared.Cause.TheVariants as cause
use Rattle.answers.specs.declared.Finding.{Finding}
use Rattle.answers.specs.States.{State, Target, done_total, done_limit, findings_needed, yields_of, yields_asked}

-- FIRE

-- nothing stands in the way of a fire
pub record FireFits (N : NetMeaning) (s : State) (t : ℕ) : Type 0 where
  pub a_step : t < N.steps
  pub within_limit : done_total s + 1 ≤ done_limit
  pub input_holds : 0 < s.counts (N.input t)
  pub spare_holds : yields_of N t ≤ s.spare + 1

-- why a fire is refused: the first of four that applies
pub data WhyFire (N : NetMeaning) (s : State) (t : ℕ) : Refusal → Type 0 where
  no_such_step : N.steps ≤ t → WhyFire N s t NoSuchStep
  limit_reached : t < N.steps → done_limit < done_total s + 1 → WhyFire N s t DoneLimit
  input_empty : t < N.steps → done_total s + 1 ≤ done_limit → s.counts (N.input t) ≡ 0 →
      WhyFire N s t (InputEmpty (N.input t))
  spare_short : t < N.steps → done_total s + 1 ≤ done_limit → 0 < s.counts (N.input t) →
      s.spare + 1 < yields_of N t → WhyFire N s t SpareShort

-- RESUME

-- as many numbers as there are steps and places, and kind 0 or 1
pub record RowsFit (N : NetMeaning) (tally : List ℕ) (target : Target) : Type 0 where
  pub tally_long : length tally ≡ N.steps
  pub target_long : length target.numbers ≡ N.places
  pub known_kind : target.kind < 2

-- what the size checks of a resume ask
pub record ResumeFits (N : NetMeaning) (s : State) (tally : List ℕ) (target : Target) (memory : ℕ) : Type 0 where
  pub rows : RowsFit N tally target
  pub within_limit : done_total s + steps_asked N (at tally) ≤ done_limit
  pub memory_holds : steps_asked N (at tally) ≤ memory
  pub spare_holds : yields_asked N (at tally) ≤ s.spare

-- the marking does not reach the target at p, or does not cover it there, whichever the kind asks for
abbrev pub Misses : Target → Marking → ℕ → Type 0
Misses target m p =
    ((target.kind ≡ 0) × (m p ≢ at target.numbers p)) ⊎ ((target.kind ≡ 1) × (m p < at target.numbers p))

-- the marking is the target on the net's places (kind 0), or covers it (kind 1)
abbrev pub Meets : NetMeaning → Target → Marking → Type 0
Meets N target m =
    ((target.kind ≡ 0) × ((p : ℕ) → p < N.places → m p ≡ at target.numbers p))
    ⊎ ((target.kind ≡ 1) × ((p : ℕ) → p < N.places → at target.numbers p ≤ m p))

-- the order does the tally from where the sitting is, and the marking after it is as wanted
abbrev pub Such : NetMeaning → State → List ℕ → Target → List ℕ → Type 0
Such N s tally target order =
    Realizes N s.counts (at tally) order × Meets N target (after N s.counts order)

-- p is the least short place
pub record LeastShort (N : NetMeaning) (m : Marking) (x : Tally) (p : ℕ) : Type 0 where
  pub inside : p < N.places
  pub short : theory.IsShort N m x p
  pub least : (q : ℕ) → q < p → theory.IsShort N m x q → ⊥

-- no place is short, and p is the least that is cut off
pub record LeastCutOff (N : NetMeaning) (m : Marking) (x : Tally) (p : ℕ) : Type 0 where
  pub inside : p < N.places
  pub none_short : NoPlaceShort N m x
  pub cut_off : IsCutOff N m x p
  pub least : (q : ℕ) → q < p → IsCutOff N m x q → ⊥

-- the tally can be done, every order that does it misses the target at p, and none misses it before p
pub record LeastMissed (N : NetMeaning) (m : Marking) (x : Tally) (target : Target) (p : ℕ) : Type 0 where
  pub inside : p < N.places
  pub can_be_done : Realizable N m x
  pub misses : (order : List ℕ) → Realizes N m x order → Misses target (after N m order) p
  pub least : (order : List ℕ) → Realizes N m x order → (q : ℕ) → q < p →
      Misses target (after N m order) q → ⊥

-- why a resume is refused: the first of four sizes that does not fit, else the least place that stands in the way
pub data WhyResume (N : NetMeaning) (s : State) (tally : List ℕ) (target : Target)
    (memory : ℕ) : Refusal → Type 0 where
  rows_unfit : (RowsFit N tally target → ⊥) → WhyResume N s tally target memory RowsUnfit
  limit_reached : RowsFit N tally target → done_limit < done_total s + steps_asked N (at tally) →
      WhyResume N s tally target memory DoneLimit
  memory_short : RowsFit N tally target → done_total s + steps_asked N (at tally) ≤ done_limit →
      memory < steps_asked N (at tally) → WhyResume N s tally target memory OrderMemoryShort
  spare_short : RowsFit N tally target → done_total s + steps_asked N (at tally) ≤ done_limit →
      steps_asked N (at tally) ≤ memory → s.spare < yields_asked N (at tally) →
      WhyResume N s tally target memory SpareShort
  a_place_short : (p : ℕ) → ResumeFits N s tally target memory → LeastShort N s.counts (at tally) p →
      WhyResume N s tally target memory (Short p)
  a_place_cut_off : (p : ℕ) → ResumeFits N s tally target memory → LeastCutOff N s.counts (at tally) p →
      WhyResume N s tally target memory (CutOff p)
  a_place_missed : (p : ℕ) → ResumeFits N s tally target memory → LeastMissed N s.counts (at tally) target p →
      WhyResume N s tally target memory (Missed p)

-- SURVEY

-- what the checks of a survey ask
pub record SurveyFits (N : NetMeaning) (s : State) (tally : List ℕ) (target : Target) (memory : ℕ) : Type 0 where
  pub rows : RowsFit N tally target
  pub within_limit : done_total s + steps_asked N (at tally) ≤ done_limit
  pub memory_holds : findings_needed ≤ memory

-- why a survey is refused: the first of three that applies
pub data WhySurvey (N : NetMeaning) (s : State) (tally : List ℕ) (target : Target)
    (memory : ℕ) : Refusal → Type 0 where
  rows_unfit : (RowsFit N tally target → ⊥) → WhySurvey N s tally target memory RowsUnfit
  limit_reached : RowsFit N tally target → done_limit < done_total s + steps_asked N (at tally) →
      WhySurvey N s tally target memory DoneLimit
  memory_short : RowsFit N tally target → done_total s + steps_asked N (at tally) ≤ done_limit →
      memory < findings_needed → WhySurvey N s tally target memory ListFull

-- by the marking equation the tally does not bring p to what the target has there, or not up to it
abbrev pub FinalMisses : NetMeaning → Marking → Tally → Target → ℕ → Type 0
FinalMisses N m x target p =
    ((target.kind ≡ 0) × (final_number N m x p ≢ pos (at target.numbers p)))
    ⊎ ((target.kind ≡ 1) × (final_number N m x p <ℤ pos (at target.numbers p)))

-- the numbers are exactly those below n with the property, by rising number
pub record Exactly (n : ℕ) (P : ℕ → Type 0) (ps : List ℕ) : Type 0 where
  pub rising : IsStrictlyIncreasing ps
  pub exact : (p : ℕ) → Contains ps p ↔ ((p < n) × P p)

-- a finding at each of the places, with what is wrong there
abbrev pub findings_at : (ℕ → Cause) → List ℕ → List Finding
findings_at wrong places = map (λ p. record { place = p; cause = wrong p }) places

-- the list has three parts, one for each cause; a part has just the places with that cause, each once, lowest first
pub record AllFound (N : NetMeaning) (m : Marking) (x : Tally) (target : Target) (list : List Finding) : Type 0 where
  pub short_places : List ℕ
  pub cut_off_places : List ℕ
  pub missed_places : List ℕ
  pub all_short : Exactly N.places (theory.IsShort N m x) short_places
  pub all_cut_off : Exactly N.places (IsCutOff N m x) cut_off_places
  pub all_missed : Exactly N.places (FinalMisses N m x target) missed_places
  -- how far a missed place is off: added to the target it gives what the tally leaves there
  pub missed_number : ℕ → ℤ
  pub with_the_target : (p : ℕ) → missed_number p +ℤ pos (at target.numbers p) ≡ final_number N m x p
  -- a short place has what the tally leaves there, a place that is cut off has no number
  pub listed : list ≡ findings_at (λ p. cause.Short (final_number N m x p)) short_places
      ++ (findings_at (λ p. cause.CutOff) cut_off_places
      ++ findings_at (λ p. cause.Missed (missed_number p)) missed_places)
