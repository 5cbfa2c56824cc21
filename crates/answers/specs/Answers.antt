-- What fire and resume answer: the refusal, or the order and what the sitting holds afterwards.
use Rattle.std.specs.Prelude.{ℕ, ◌+◌, ◌-◌, Bool, if◌then◌else◌, not, ◌&&◌, List, [], ◌∷◌}
use Rattle.std.specs.Prelude.{◌++◌, length, drop, Some, None, Option, Result, ◌==◌, nat_le, nat_lt}
use Rattle.std.specs.Option.{option_or, option_map}
use Rattle.refusals.specs.Answered.{answered}
use Rattle.refusals.specs.declared.Refusal.{Refusal}
use Rattle.refusals.specs.declared.Refusal.TheVariants.{RowsUnfit, DoneLimit, OrderMemoryShort, SpareShort, Short}
use Rattle.refusals.specs.declared.Refusal.TheVariants.{CutOff, Missed, NoSuchStep, InputEmpty}
use Rattle.theory.specs.Nets.{NetMeaning}
use Rattle.theory.specs.Rows.{at}
use Rattle.theory.specs.Firing.{Marking, one_at, fired, after}
use Rattle.theory.specs.Tallies.{Tally, steps_asked, spent, gained}
use Rattle.theory.specs.Tests.{least, is_short, is_cut_off, first_order}
use Rattle.answers.specs.States.{State, Target, done_total, done_limit, yields_of, yields_asked}

-- the refusal of the first check that finds something wrong, if one does
abbrev pub first_wrong : List (Bool × Refusal) → Option Refusal
first_wrong [] = None
first_wrong (check ∷ checks) = if check.0 then Some check.1 else first_wrong checks

-- what is there after a call: what was there if it is refused
abbrev pub unless : {A : Type 0} → Option Refusal → A → A → A
unless None before next = next
unless (Some e) before next = before

-- lent memory with these as its first entries, and the others as they were
abbrev pub written : {A : Type 0} → List A → List A → List A
written items memory = items ++ drop (length items) memory

-- FIRE

-- what a fire looks at, first to last, each with the refusal that it may bring
abbrev pub fire_checks : NetMeaning → State → ℕ → List (Bool × Refusal)
fire_checks N s t =
    (nat_le N.steps t, NoSuchStep)
    ∷ (nat_lt done_limit (done_total s + 1), DoneLimit)
    ∷ ((s.counts (N.input t) == 0), InputEmpty (N.input t))
    ∷ (nat_lt (s.spare + 1) (yields_of N t), SpareShort)
    ∷ []

-- why a fire is refused, if it is
abbrev pub fire_refusal : NetMeaning → State → ℕ → Option Refusal
fire_refusal N s t = first_wrong (fire_checks N s t)

-- an accepted fire has no more to say than that
abbrev pub fire_answer : NetMeaning → State → ℕ → Result (Unit {0}) Refusal
fire_answer N s t = answered (fire_refusal N s t) tt

-- what an accepted fire leaves
abbrev pub after_fire : NetMeaning → State → ℕ → State
after_fire N s t = record {
  counts = fired N s.counts t;
  spare = (s.spare + 1) - yields_of N t;
  done = λ u. s.done u + one_at t u;
}

-- RESUME

-- there are as many numbers as steps in the tally and as places in the target, and the kind is 0 or 1
abbrev pub rows_fit : NetMeaning → List ℕ → Target → Bool
rows_fit N tally target =
    (length tally == N.steps) && (length target.numbers == N.places && nat_lt target.kind 2)

-- what a resume looks at before it looks at the net's places: the sizes, for order memory of so many entries
abbrev pub size_checks : NetMeaning → State → List ℕ → Target → ℕ → List (Bool × Refusal)
size_checks N s tally target memory =
    (not (rows_fit N tally target), RowsUnfit)
    ∷ (nat_lt done_limit (done_total s + steps_asked N (at tally)), DoneLimit)
    ∷ (nat_lt memory (steps_asked N (at tally)), OrderMemoryShort)
    ∷ (nat_lt s.spare (yields_asked N (at tally)), SpareShort)
    ∷ []

-- which size check a resume fails first, if one
abbrev pub size_refusal : NetMeaning → State → List ℕ → Target → ℕ → Option Refusal
size_refusal N s tally target memory = first_wrong (size_checks N s tally target memory)

-- the place is missed: the tally would leave there more or fewer blocks than an exact target has, or too few to cover
-- one of the other kind; both sides are raised by what is spent, as numbers here are never negative
abbrev pub is_missed : NetMeaning → Marking → Tally → Target → ℕ → Bool
is_missed N m x target p =
    if target.kind == 0
    then not (m p + gained N x p == at target.numbers p + spent N x p)
    else nat_lt (m p + gained N x p) (at target.numbers p + spent N x p)

-- the place that a resume names: short goes before cut off, that before missed, and of several places the least
abbrev pub cause_refusal : NetMeaning → Marking → Tally → Target → Option Refusal
cause_refusal N m x target =
    option_or (option_map Short (least (is_short N m x) N.places))
    (option_or (option_map CutOff (least (is_cut_off N m x) N.places))
    (option_map Missed (least (is_missed N m x target) N.places)))

-- why a resume is refused, if it is: the size checks, then the causes
abbrev pub resume_refusal : NetMeaning → State → List ℕ → Target → ℕ → Option Refusal
resume_refusal N s tally target memory =
    option_or (size_refusal N s tally target memory) (cause_refusal N s.counts (at tally) target)

-- the order that an accepted resume fires and writes
abbrev pub the_order : NetMeaning → State → List ℕ → List ℕ
the_order N s tally = first_order N s.counts (at tally)

-- what an accepted resume leaves
abbrev pub after_resume : NetMeaning → State → List ℕ → State
after_resume N s tally = record {
  counts = after N s.counts (the_order N s tally);
  spare = (s.spare + steps_asked N (at tally)) - yields_asked N (at tally);
  done = λ u. s.done u + at tally u;
}

-- an accepted resume says how many steps it fired
abbrev pub resume_answer : NetMeaning → State → List ℕ → Target → ℕ → Result ℕ Refusal
resume_answer N s tally target memory = answered (resume_refusal N s tally target memory) (length (the_order N s tally))

-- what a resume leaves in the lent memory: a step number for each step fired, and nothing else that is new
abbrev pub order_memory : NetMeaning → State → List ℕ → Target → List ℕ → List ℕ
order_memory N s tally target memory =
    unless (resume_refusal N s tally target (length memory)) memory (written (the_order N s tally) memory)
