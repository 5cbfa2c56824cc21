-- Worked cases: what each call answers and leaves, worked out by hand, and proved by one computed check.
use Rattle.std.specs.Prelude.{◌≡◌, ℕ, List, [], ◌∷◌, map, pos, negsuc}
use Rattle.refusals.specs.declared.Refusal.{Refusal}
use Rattle.refusals.specs.declared.Refusal.TheVariants.{RowsUnfit, DoneLimit, OrderMemoryShort, SpareShort, Short}
use Rattle.refusals.specs.declared.Refusal.TheVariants.{CutOff, Missed, NoSuchStep, InputEmpty, ListFull}
use Rattle.theory.specs.Nets.{NetMeaning}
use Rattle.theory.specs.Rows.{at, row_of}
use Rattle.theory.specs.Cases.{detour, doubler, lock, two_rings}
use Rattle.answers.specs.declared.Cause.TheVariants as cause
use Rattle.answers.specs.declared.Finding.{Finding}
use Rattle.answers.specs.States.{State, exact, at_least}
use Rattle.answers.specs.Calls.{Call, Answer, answer_to, after_call}
use Rattle.answers.specs.Calls.Call.{fire, resume, survey}
use Rattle.answers.specs.Calls.Answer.{refused, fired_once, order_written, findings_listed}

-- what is said, and what the sitting then holds: counts, spare, and the done counts of the net's steps
pub record Outcome : Type 0 where
  pub answer : Answer
  pub counts : List ℕ
  pub spare : ℕ
  pub done : List ℕ

pub record Case : Type 0 where
  pub net : NetMeaning
  pub counts : List ℕ
  pub spare : ℕ
  pub done : List ℕ
  pub call : Call
  pub expected : Outcome

abbrev pub before : Case → State
before c = record { counts = at c.counts; spare = c.spare; done = at c.done }

abbrev pub outcome : Case → Outcome
outcome c = record {
  answer = answer_to c.net (before c) c.call;
  counts = row_of (after_call c.net (before c) c.call).counts c.net.places;
  spare = (after_call c.net (before c) c.call).spare;
  done = row_of (after_call c.net (before c) c.call).done c.net.steps;
}

-- a call on a sitting that has done these steps, with this spare, at these counts; refused, so that all stays
abbrev pub says_no : NetMeaning → List ℕ → ℕ → List ℕ → Call → Refusal → Case
says_no net counts spare done call e = record {
  net = net;
  counts = counts;
  spare = spare;
  done = done;
  call = call;
  expected = record { answer = refused e; counts = counts; spare = spare; done = done };
}

-- or accepted, leaving these counts, spare and done counts
abbrev pub says_yes : NetMeaning → List ℕ → ℕ → List ℕ → Call → Answer → List ℕ →
    ℕ → List ℕ → Case
says_yes net counts spare done call answer counts' spare' done' = record {
  net = net;
  counts = counts;
  spare = spare;
  done = done;
  call = call;
  expected = record { answer = answer; counts = counts'; spare = spare'; done = done' };
}

-- a survey changes nothing
abbrev pub lists : NetMeaning → List ℕ → Call → List ℕ → List Finding → Case
lists net counts call none found = says_yes net counts 100 none call (findings_listed found) counts 100 none

abbrev pub nothing_done : List ℕ
nothing_done = 0 ∷ 0 ∷ 0 ∷ []

abbrev pub short : ℕ → ℕ → Finding
short p below = record { place = p; cause = cause.Short (negsuc below) }

abbrev pub cut_off : ℕ → Finding
cut_off p = record { place = p; cause = cause.CutOff }

abbrev pub missed : ℕ → ℕ → Finding
missed p below = record { place = p; cause = cause.Missed (negsuc below) }

-- THE SMALL NETS

abbrev pub the_detour_is_taken_first : Case
the_detour_is_taken_first =
    says_yes detour (1 ∷ 0 ∷ 0 ∷ []) 100 nothing_done
    (resume (1 ∷ 1 ∷ 1 ∷ []) (exact (0 ∷ 0 ∷ 1 ∷ [])) 10)
    (order_written (1 ∷ 2 ∷ 0 ∷ [])) (0 ∷ 0 ∷ 1 ∷ []) 100 (1 ∷ 1 ∷ 1 ∷ [])

abbrev pub a_short_place : Case
a_short_place =
    says_no detour (1 ∷ 0 ∷ 0 ∷ []) 100 nothing_done
    (resume (0 ∷ 1 ∷ 2 ∷ []) (at_least (0 ∷ 0 ∷ 0 ∷ [])) 10) (Short 1)

abbrev pub a_cut_off_place : Case
a_cut_off_place =
    says_no detour (0 ∷ 0 ∷ 1 ∷ []) 100 nothing_done
    (resume (0 ∷ 1 ∷ 1 ∷ []) (exact (0 ∷ 0 ∷ 1 ∷ [])) 10) (CutOff 0)

abbrev pub nothing_asked : Case
nothing_asked =
    says_yes detour (0 ∷ 0 ∷ 0 ∷ []) 100 nothing_done
    (resume (0 ∷ 0 ∷ 0 ∷ []) (exact (0 ∷ 0 ∷ 0 ∷ [])) 10)
    (order_written []) (0 ∷ 0 ∷ 0 ∷ []) 100 nothing_done

abbrev pub a_missed_place : Case
a_missed_place =
    says_no detour (1 ∷ 0 ∷ 0 ∷ []) 100 nothing_done
    (resume (1 ∷ 1 ∷ 1 ∷ []) (exact (0 ∷ 0 ∷ 2 ∷ [])) 10) (Missed 2)

abbrev pub a_second_block : Case
a_second_block =
    says_yes detour (2 ∷ 0 ∷ 0 ∷ []) 100 nothing_done
    (resume (1 ∷ 1 ∷ 1 ∷ []) (exact (1 ∷ 0 ∷ 1 ∷ [])) 10)
    (order_written (0 ∷ 1 ∷ 2 ∷ [])) (1 ∷ 0 ∷ 1 ∷ []) 100 (1 ∷ 1 ∷ 1 ∷ [])

abbrev pub through_the_lock : Case
through_the_lock =
    says_yes lock (2 ∷ 0 ∷ 0 ∷ []) 100 (0 ∷ 0 ∷ 0 ∷ 0 ∷ 0 ∷ 0 ∷ [])
    (resume (1 ∷ 1 ∷ 1 ∷ 1 ∷ 0 ∷ 0 ∷ []) (at_least (0 ∷ 0 ∷ 2 ∷ [])) 10)
    (order_written (0 ∷ 1 ∷ 2 ∷ 3 ∷ [])) (0 ∷ 0 ∷ 2 ∷ []) 100 (1 ∷ 1 ∷ 1 ∷ 1 ∷ 0 ∷ 0 ∷ [])

abbrev pub spare_just_enough : Case
spare_just_enough =
    says_yes doubler (1 ∷ []) 6 (0 ∷ []) (resume (3 ∷ []) (exact (4 ∷ [])) 10)
    (order_written (0 ∷ 0 ∷ 0 ∷ [])) (4 ∷ []) 3 (3 ∷ [])

abbrev pub spare_one_too_small : Case
spare_one_too_small = says_no doubler (1 ∷ []) 5 (0 ∷ []) (resume (3 ∷ []) (exact (4 ∷ [])) 10) SpareShort

abbrev pub no_block_to_start_with : Case
no_block_to_start_with = says_no doubler (0 ∷ []) 100 (0 ∷ [])
    (resume (1 ∷ []) (at_least (0 ∷ [])) 10) (CutOff 0)

abbrev pub a_survey_of_the_short_place : Case
a_survey_of_the_short_place =
    lists detour (1 ∷ 0 ∷ 0 ∷ []) (survey (0 ∷ 1 ∷ 2 ∷ []) (at_least (0 ∷ 0 ∷ 0 ∷ [])) 192)
    nothing_done
    (short 1 0 ∷ missed 1 0 ∷ [])

abbrev pub an_empty_input : Case
an_empty_input = says_no detour (0 ∷ 1 ∷ 0 ∷ []) 100 nothing_done (fire 0) (InputEmpty 0)

-- JUST WITHIN A LIMIT, AND ONE PAST IT

abbrev pub a_tally_too_short : Case
a_tally_too_short = says_no detour (1 ∷ 0 ∷ 0 ∷ []) 100 nothing_done
    (resume (1 ∷ 1 ∷ []) (exact (0 ∷ 0 ∷ 1 ∷ [])) 10) RowsUnfit

abbrev pub a_target_too_long : Case
a_target_too_long =
    says_no detour (1 ∷ 0 ∷ 0 ∷ []) 100 nothing_done
    (resume (1 ∷ 1 ∷ 1 ∷ []) (exact (0 ∷ 0 ∷ 1 ∷ 0 ∷ [])) 10) RowsUnfit

abbrev pub an_unknown_kind : Case
an_unknown_kind =
    says_no detour (1 ∷ 0 ∷ 0 ∷ []) 100 nothing_done
    (resume (1 ∷ 1 ∷ 1 ∷ []) (record { numbers = 0 ∷ 0 ∷ 1 ∷ []; kind = 2 }) 10) RowsUnfit

abbrev pub a_total_of_65535 : Case
a_total_of_65535 =
    says_yes detour (1 ∷ 0 ∷ 0 ∷ []) 100 (65532 ∷ 0 ∷ 0 ∷ [])
    (resume (1 ∷ 1 ∷ 1 ∷ []) (exact (0 ∷ 0 ∷ 1 ∷ [])) 10)
    (order_written (1 ∷ 2 ∷ 0 ∷ [])) (0 ∷ 0 ∷ 1 ∷ []) 100 (65533 ∷ 1 ∷ 1 ∷ [])

abbrev pub a_total_of_65536 : Case
a_total_of_65536 =
    says_no detour (1 ∷ 0 ∷ 0 ∷ []) 100 (65533 ∷ 0 ∷ 0 ∷ [])
    (resume (1 ∷ 1 ∷ 1 ∷ []) (exact (0 ∷ 0 ∷ 1 ∷ [])) 10) DoneLimit

abbrev pub memory_just_enough : Case
memory_just_enough =
    says_yes detour (1 ∷ 0 ∷ 0 ∷ []) 3 nothing_done
    (resume (1 ∷ 1 ∷ 1 ∷ []) (exact (0 ∷ 0 ∷ 1 ∷ [])) 3)
    (order_written (1 ∷ 2 ∷ 0 ∷ [])) (0 ∷ 0 ∷ 1 ∷ []) 3 (1 ∷ 1 ∷ 1 ∷ [])

abbrev pub memory_one_too_short : Case
memory_one_too_short =
    says_no detour (1 ∷ 0 ∷ 0 ∷ []) 0 nothing_done
    (resume (1 ∷ 1 ∷ 1 ∷ []) (exact (0 ∷ 0 ∷ 1 ∷ [])) 2) OrderMemoryShort

abbrev pub no_such_step : Case
no_such_step = says_no detour (1 ∷ 0 ∷ 0 ∷ []) 0 (65535 ∷ 0 ∷ 0 ∷ []) (fire 3) NoSuchStep

abbrev pub one_fire_too_many : Case
one_fire_too_many = says_no detour (0 ∷ 1 ∷ 0 ∷ []) 0 (65535 ∷ 0 ∷ 0 ∷ []) (fire 0) DoneLimit

abbrev pub the_last_fire : Case
the_last_fire =
    says_yes detour (1 ∷ 0 ∷ 0 ∷ []) 0 (65534 ∷ 0 ∷ 0 ∷ []) (fire 0) fired_once
    (0 ∷ 0 ∷ 1 ∷ []) 0 (65535 ∷ 0 ∷ 0 ∷ [])

abbrev pub the_block_taken_makes_room : Case
the_block_taken_makes_room = says_yes doubler (1 ∷ []) 1 (0 ∷ []) (fire 0) fired_once (2 ∷ []) 0 (1 ∷ [])

abbrev pub no_room_for_the_yields : Case
no_room_for_the_yields = says_no doubler (1 ∷ []) 0 (0 ∷ []) (fire 0) SpareShort

abbrev pub findings_memory_of_191 : Case
findings_memory_of_191 =
    says_no detour (1 ∷ 0 ∷ 0 ∷ []) 100 nothing_done
    (survey (0 ∷ 1 ∷ 2 ∷ []) (at_least (0 ∷ 0 ∷ 0 ∷ [])) 191) ListFull

abbrev pub three_groups_by_rising_place : Case
three_groups_by_rising_place =
    lists detour (0 ∷ 0 ∷ 0 ∷ []) (survey (1 ∷ 1 ∷ 1 ∷ []) (exact (0 ∷ 0 ∷ 3 ∷ [])) 192) nothing_done
    (short 0 0 ∷ cut_off 0 ∷ cut_off 1 ∷ cut_off 2 ∷ missed 0 0 ∷ missed 2 1 ∷ [])

abbrev pub missed_from_above : Case
missed_from_above =
    lists detour (2 ∷ 0 ∷ 0 ∷ []) (survey (1 ∷ 1 ∷ 1 ∷ []) (exact (0 ∷ 0 ∷ 1 ∷ [])) 192) nothing_done
    (record { place = 0; cause = cause.Missed (pos 1) } ∷ [])

abbrev pub nothing_to_find : Case
nothing_to_find =
    lists detour (1 ∷ 0 ∷ 0 ∷ []) (survey (1 ∷ 1 ∷ 1 ∷ []) (exact (0 ∷ 0 ∷ 1 ∷ [])) 192)
    nothing_done []

-- TWO THINGS WRONG AT ONCE

abbrev pub an_empty_input_and_no_room : Case
an_empty_input_and_no_room = says_no doubler (0 ∷ []) 0 (0 ∷ []) (fire 0) (InputEmpty 0)

abbrev pub an_unknown_kind_and_too_many_steps : Case
an_unknown_kind_and_too_many_steps =
    says_no detour (1 ∷ 0 ∷ 0 ∷ []) 100 (65533 ∷ 0 ∷ 0 ∷ [])
    (resume (1 ∷ 1 ∷ 1 ∷ []) (record { numbers = 0 ∷ 0 ∷ 1 ∷ []; kind = 2 }) 10) RowsUnfit

abbrev pub too_many_steps_and_little_memory : Case
too_many_steps_and_little_memory =
    says_no detour (1 ∷ 0 ∷ 0 ∷ []) 100 (65533 ∷ 0 ∷ 0 ∷ [])
    (resume (1 ∷ 1 ∷ 1 ∷ []) (exact (0 ∷ 0 ∷ 1 ∷ [])) 2) DoneLimit

abbrev pub little_spare_and_a_short_place : Case
little_spare_and_a_short_place =
    says_no detour (1 ∷ 0 ∷ 0 ∷ []) 2 nothing_done
    (resume (0 ∷ 1 ∷ 2 ∷ []) (at_least (0 ∷ 0 ∷ 0 ∷ [])) 10) SpareShort

-- place 0 is cut off, place 1 is short and cut off
abbrev pub a_short_place_behind_a_cut_off_one : Case
a_short_place_behind_a_cut_off_one =
    says_no detour (0 ∷ 0 ∷ 0 ∷ []) 100 nothing_done
    (resume (0 ∷ 0 ∷ 1 ∷ []) (exact (1 ∷ 0 ∷ 0 ∷ [])) 10) (Short 1)

-- place 0 is missed, places 2 and 3 are cut off
abbrev pub a_cut_off_place_behind_a_missed_one : Case
a_cut_off_place_behind_a_missed_one =
    says_no two_rings (1 ∷ 0 ∷ 0 ∷ 0 ∷ []) 100 (0 ∷ 0 ∷ 0 ∷ 0 ∷ 0 ∷ [])
    (resume (0 ∷ 0 ∷ 1 ∷ 1 ∷ 0 ∷ []) (exact (0 ∷ 0 ∷ 0 ∷ 0 ∷ [])) 10) (CutOff 2)

abbrev pub a_survey_of_a_tally_too_short_and_too_many_steps : Case
a_survey_of_a_tally_too_short_and_too_many_steps =
    says_no detour (1 ∷ 0 ∷ 0 ∷ []) 100 (65535 ∷ 0 ∷ 0 ∷ [])
    (survey (0 ∷ 1 ∷ []) (at_least (0 ∷ 0 ∷ 0 ∷ [])) 192) RowsUnfit

abbrev pub a_survey_of_too_many_steps_with_little_memory : Case
a_survey_of_too_many_steps_with_little_memory =
    says_no detour (1 ∷ 0 ∷ 0 ∷ []) 100 (65533 ∷ 0 ∷ 0 ∷ [])
    (survey (0 ∷ 1 ∷ 2 ∷ []) (at_least (0 ∷ 0 ∷ 0 ∷ [])) 191) DoneLimit

abbrev pub cases : List Case
cases =
    the_detour_is_taken_first
    ∷ a_short_place
    ∷ a_cut_off_place
    ∷ nothing_asked
    ∷ a_missed_place
    ∷ a_second_block
    ∷ through_the_lock
    ∷ spare_just_enough
    ∷ spare_one_too_small
    ∷ no_block_to_start_with
    ∷ a_survey_of_the_short_place
    ∷ an_empty_input
    ∷ a_tally_too_short
    ∷ a_target_too_long
    ∷ an_unknown_kind
    ∷ a_total_of_65535
    ∷ a_total_of_65536
    ∷ memory_just_enough
    ∷ memory_one_too_short
    ∷ no_such_step
    ∷ one_fire_too_many
    ∷ the_last_fire
    ∷ the_block_taken_makes_room
    ∷ no_room_for_the_yields
    ∷ findings_memory_of_191
    ∷ three_groups_by_rising_place
    ∷ missed_from_above
    ∷ nothing_to_find
    ∷ an_empty_input_and_no_room
    ∷ an_unknown_kind_and_too_many_steps
    ∷ too_many_steps_and_little_memory
    ∷ little_spare_and_a_short_place
    ∷ a_short_place_behind_a_cut_off_one
    ∷ a_cut_off_place_behind_a_missed_one
    ∷ a_survey_of_a_tally_too_short_and_too_many_steps
    ∷ a_survey_of_too_many_steps_with_little_memory
    ∷ []

-- each case comes out as worked out by hand
abbrev pub CasesHold : Type 0
CasesHold = map outcome cases ≡ map (λ c. c.expected) cases
