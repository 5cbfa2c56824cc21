-- Small nets with known verdicts: the rule and trying every order against what was worked out by hand.
use Rattle.std.specs.Prelude.{◌≡◌, ℕ, zero, suc, Bool, if◌then◌else◌, not, ◌&&◌, List, []}
use Rattle.std.specs.Prelude.{◌∷◌, map, ℤ, pos, negsuc, Some, None, Option, nat_lt, slice_index_or}
use Rattle.std.specs.Option.{option_or, option_map}
use Rattle.theory.specs.Nets.{NetMeaning}
use Rattle.theory.specs.Rows.{at, row_of}
use Rattle.theory.specs.Firing.{Marking, fired}
use Rattle.theory.specs.Tallies.{Tally, steps_asked, final_number}
use Rattle.theory.specs.Orders.{less}
use Rattle.theory.specs.Tests.{least, is_short, in_subnet, is_reached, is_cut_off, followed, first_order}

-- HOW A CASE IS JUDGED

-- what the theorems say of a tally: its first order, or the place that stands in the way
pub data Verdict : Type 0 where
  short_at : ℕ → Verdict
  cut_off_at : ℕ → Verdict
  done_by : List ℕ → Verdict

abbrev pub verdict_from : Option ℕ → Option ℕ → List ℕ → Verdict
verdict_from (Some p) cut order = short_at p
verdict_from None (Some p) order = cut_off_at p
verdict_from None None order = done_by order

abbrev pub by_the_rule : NetMeaning → Marking → Tally → Verdict
by_the_rule N m x =
    verdict_from (least (is_short N m x) N.places) (least (is_cut_off N m x) N.places) (first_order N m x)

-- t is left in the tally and can be fired
abbrev pub ready : NetMeaning → Marking → Tally → ℕ → Bool
ready N m x t = nat_lt 0 (x t) && nat_lt 0 (m (N.input t))

-- the first of f 0 .. f (n - 1) that is there
abbrev pub first_there : {A : Type 0} → (ℕ → Option A) → ℕ → Option A
first_there f zero = None
first_there f (suc n) = option_or (first_there f n) (f n)

-- a search of all orders of n steps in lexicographic order, with nothing but the firing rule
abbrev pub try_all : NetMeaning → Marking → Tally → ℕ → Option (List ℕ)
try_all N m x zero = Some []
try_all N m x (suc n) =
    first_there (λ t. if ready N m x t then option_map (λ ts. t ∷ ts)
    (try_all N (fired N m t) (less x t) n) else None) N.steps

abbrev pub by_trying : NetMeaning → Marking → Tally → Option (List ℕ)
by_trying N m x = try_all N m x (steps_asked N x)

-- a shortcut that is wrong: always the least enabled step, without a look at what is left
abbrev pub fire_any : NetMeaning → Marking → Tally → ℕ → List ℕ
fire_any N m x zero = []
fire_any N m x (suc n) = followed (least (ready N m x) N.steps) (λ t. fire_any N (fired N m t) (less x t) n)

abbrev pub by_firing_any : NetMeaning → Marking → Tally → List ℕ
by_firing_any N m x = fire_any N m x (steps_asked N x)

-- another: paths may use any step of the net, also one that the tally does not ask for
abbrev pub by_the_whole_net : NetMeaning → Marking → Tally → Option ℕ
by_the_whole_net N m x = least (λ p. in_subnet N x p && not (is_reached N m (λ t. 1) p)) N.places

-- all that is computed of a case
pub record Outcome : Type 0 where
  pub rule : Verdict
  pub trying : Option (List ℕ)
  pub finals : List ℤ
  pub firing_any : List ℕ
  pub whole_net : Option ℕ

pub record Case : Type 0 where
  pub net : NetMeaning
  pub start : List ℕ
  pub tally : List ℕ
  pub expected : Outcome

abbrev pub outcome : Case → Outcome
outcome c = record {
  rule = by_the_rule c.net (at c.start) (at c.tally);
  trying = by_trying c.net (at c.start) (at c.tally);
  finals = row_of (final_number c.net (at c.start) (at c.tally)) c.net.places;
  firing_any = by_firing_any c.net (at c.start) (at c.tally);
  whole_net = by_the_whole_net c.net (at c.start) (at c.tally);
}

-- a tally that can be done: the rule and trying find the same order
abbrev pub done : List ℕ → List ℤ → List ℕ → Outcome
done order finals any = record {
  rule = done_by order;
  trying = Some order;
  finals = finals;
  firing_any =
      any;
  whole_net = None;
}

-- one that cannot: no order is found by trying
abbrev pub cannot : Verdict → List ℤ → List ℕ → Option ℕ → Outcome
cannot verdict finals any whole =
    record { rule = verdict; trying = None; finals = finals; firing_any = any; whole_net = whole }

-- THE NETS

-- a net from the input of each step and each step's row of yields
abbrev pub net_of : ℕ → ℕ → List ℕ → List (List ℕ) → NetMeaning
net_of places steps inputs yields =
    record { places = places; steps = steps; input = at inputs; yields = λ t. at (slice_index_or yields t []) }

-- from place 0 a block leaves for place 2 by step 0, or makes a detour over place 1 by steps 1 and 2
abbrev pub detour : NetMeaning
detour = net_of 3 3 (0 ∷ 0 ∷ 1 ∷ []) ((0 ∷ 0 ∷ 1 ∷ []) ∷ (0 ∷ 1 ∷ 0 ∷ [])
    ∷ (1 ∷ 0 ∷ 0 ∷ []) ∷ [])

-- one place and one step, which puts back two blocks for each that it takes
abbrev pub doubler : NetMeaning
doubler = net_of 1 1 (0 ∷ []) ((2 ∷ []) ∷ [])

-- a ring of three places, with two steps that do the same from each place to the next
abbrev pub lock : NetMeaning
lock =
    net_of 3 6 (0 ∷ 0 ∷ 1 ∷ 1 ∷ 2 ∷ 2 ∷ [])
    ((0 ∷ 1 ∷ 0 ∷ []) ∷ (0 ∷ 1 ∷ 0 ∷ []) ∷ (0 ∷ 0 ∷ 1 ∷ []) ∷ (0 ∷ 0 ∷ 1 ∷ [])
    ∷ (1 ∷ 0 ∷ 0 ∷ []) ∷ (1 ∷ 0 ∷ 0 ∷ []) ∷ [])

-- step 0 goes from 0 to 1, step 1 back; steps 2 and 3 go between 2 and 3 alike; step 4 leads from 0 to 2
abbrev pub two_rings : NetMeaning
two_rings =
    net_of 4 5 (0 ∷ 1 ∷ 2 ∷ 3 ∷ 0 ∷ [])
    ((0 ∷ 1 ∷ 0 ∷ 0 ∷ []) ∷ (1 ∷ 0 ∷ 0 ∷ 0 ∷ []) ∷ (0 ∷ 0 ∷ 0 ∷ 1 ∷ [])
    ∷ (0 ∷ 0 ∷ 1 ∷ 0 ∷ []) ∷ (0 ∷ 0 ∷ 1 ∷ 0 ∷ []) ∷ [])

-- step 0 takes from 0 and yields nothing; step 1 goes from 0 to 1, step 2 back
abbrev pub purge : NetMeaning
purge = net_of 2 3 (0 ∷ 0 ∷ 1 ∷ []) ((0 ∷ 0 ∷ []) ∷ (0 ∷ 1 ∷ []) ∷ (1 ∷ 0 ∷ []) ∷ [])

-- step 0 takes from 0 and yields 3 at 1; step 1 goes from 1 to 0
abbrev pub tripler : NetMeaning
tripler = net_of 2 2 (0 ∷ 1 ∷ []) ((0 ∷ 3 ∷ []) ∷ (1 ∷ 0 ∷ []) ∷ [])

-- step 0 goes from 0 to 1; step 1 gives its block back to 0 and yields 2 at 1
abbrev pub spring : NetMeaning
spring = net_of 2 2 (0 ∷ 0 ∷ []) ((0 ∷ 1 ∷ []) ∷ (1 ∷ 2 ∷ []) ∷ [])

-- step 0 goes from 0 to 1, step 1 from 1 back to 0, step 2 from 0 to 2
abbrev pub return : NetMeaning
return = net_of 3 3 (0 ∷ 1 ∷ 0 ∷ []) ((0 ∷ 1 ∷ 0 ∷ []) ∷ (1 ∷ 0 ∷ 0 ∷ [])
    ∷ (0 ∷ 0 ∷ 1 ∷ []) ∷ [])

-- step 0 takes from 0 and yields 1 at 1 and at 2; steps 1 and 2 lead back from there
abbrev pub fork : NetMeaning
fork = net_of 3 3 (0 ∷ 1 ∷ 2 ∷ []) ((0 ∷ 1 ∷ 1 ∷ []) ∷ (1 ∷ 0 ∷ 0 ∷ [])
    ∷ (1 ∷ 0 ∷ 0 ∷ []) ∷ [])

-- step 0 goes from 2 to 3, step 1 from 1 to 2, step 2 from 0 to 1
abbrev pub chain : NetMeaning
chain = net_of 4 3 (2 ∷ 1 ∷ 0 ∷ []) ((0 ∷ 0 ∷ 0 ∷ 1 ∷ []) ∷ (0 ∷ 0 ∷ 1 ∷ 0 ∷ [])
    ∷ (0 ∷ 1 ∷ 0 ∷ 0 ∷ []) ∷ [])

-- two places and no step
abbrev pub still : NetMeaning
still = net_of 2 0 [] []

-- one place; step 0 gives its block back
abbrev pub idle : NetMeaning
idle = net_of 1 1 (0 ∷ []) ((1 ∷ []) ∷ [])

-- step 0 takes from 0 and yields 255 at 1; step 1 takes from 1 and yields nothing
abbrev pub burst : NetMeaning
burst = net_of 2 2 (0 ∷ 1 ∷ []) ((0 ∷ 255 ∷ []) ∷ (0 ∷ 0 ∷ []) ∷ [])

-- THE CASES

abbrev pub firing_any_step_sticks : Case
firing_any_step_sticks = record {
  net = detour;
  start = 1 ∷ 0 ∷ 0 ∷ [];
  tally = 1 ∷ 1 ∷ 1 ∷ [];
  expected = done (1 ∷ 2 ∷ 0 ∷ []) (pos 0 ∷ pos 0 ∷ pos 1 ∷ []) (0 ∷ []);
}

abbrev pub a_second_block_lets_it_go_first : Case
a_second_block_lets_it_go_first = record {
  net = detour;
  start = 2 ∷ 0 ∷ 0 ∷ [];
  tally = 1 ∷ 1 ∷ 1 ∷ [];
  expected = done (0 ∷ 1 ∷ 2 ∷ []) (pos 1 ∷ pos 0 ∷ pos 1 ∷ []) (0 ∷ 1 ∷ 2 ∷ []);
}

abbrev pub more_spent_than_gained_is_short : Case
more_spent_than_gained_is_short = record {
  net = detour;
  start = 1 ∷ 0 ∷ 0 ∷ [];
  tally = 0 ∷ 1 ∷ 2 ∷ [];
  expected = cannot (short_at 1) (pos 2 ∷ negsuc 0 ∷ pos 0 ∷ []) (1 ∷ 2 ∷ []) None;
}

abbrev pub final_numbers_alone_accept_too_much : Case
final_numbers_alone_accept_too_much = record {
  net = detour;
  start = 0 ∷ 0 ∷ 1 ∷ [];
  tally = 0 ∷ 1 ∷ 1 ∷ [];
  expected = cannot (cut_off_at 0) (pos 0 ∷ pos 0 ∷ pos 1 ∷ []) [] (Some 0);
}

abbrev pub the_whole_net_hides_a_cut_off_place : Case
the_whole_net_hides_a_cut_off_place = record {
  net = two_rings;
  start = 1 ∷ 0 ∷ 0 ∷ 0 ∷ [];
  tally = 0 ∷ 0 ∷ 1 ∷ 1 ∷ 0 ∷ [];
  expected = cannot (cut_off_at 2) (pos 1 ∷ pos 0 ∷ pos 0 ∷ pos 0 ∷ []) [] None;
}

abbrev pub the_leading_step_in_the_tally_joins_the_rings : Case
the_leading_step_in_the_tally_joins_the_rings = record {
  net = two_rings;
  start = 1 ∷ 0 ∷ 0 ∷ 0 ∷ [];
  tally = 1 ∷ 1 ∷ 1 ∷ 1 ∷ 1 ∷ [];
  expected = done (0 ∷ 1 ∷ 4 ∷ 2 ∷ 3 ∷ []) (pos 0 ∷ pos 0 ∷ pos 1 ∷ pos 0 ∷ [])
      (0 ∷ 1 ∷ 4 ∷ 2 ∷ 3 ∷ []);
}

abbrev pub a_gain_at_the_own_input_needs_a_block_first : Case
a_gain_at_the_own_input_needs_a_block_first = record {
  net = doubler;
  start = 0 ∷ [];
  tally = 1 ∷ [];
  expected = cannot (cut_off_at 0) (pos 1 ∷ []) [] (Some 0);
}

abbrev pub one_block_starts_the_doubler : Case
one_block_starts_the_doubler = record {
  net = doubler;
  start = 1 ∷ [];
  tally = 3 ∷ [];
  expected = done (0 ∷ 0 ∷ 0 ∷ []) (pos 4 ∷ []) (0 ∷ 0 ∷ 0 ∷ []);
}

abbrev pub nothing_asked_is_done_by_the_empty_order : Case
nothing_asked_is_done_by_the_empty_order = record {
  net = detour;
  start = 0 ∷ 0 ∷ 0 ∷ [];
  tally = 0 ∷ 0 ∷ 0 ∷ [];
  expected = done [] (pos 0 ∷ pos 0 ∷ pos 0 ∷ []) [];
}

abbrev pub two_blocks_pass_the_lock : Case
two_blocks_pass_the_lock = record {
  net = lock;
  start = 2 ∷ 0 ∷ 0 ∷ [];
  tally = 1 ∷ 1 ∷ 1 ∷ 1 ∷ 0 ∷ 0 ∷ [];
  expected = done (0 ∷ 1 ∷ 2 ∷ 3 ∷ []) (pos 0 ∷ pos 0 ∷ pos 2 ∷ []) (0 ∷ 1 ∷ 2 ∷ 3 ∷ []);
}

abbrev pub a_step_without_yields_comes_last : Case
a_step_without_yields_comes_last = record {
  net = purge;
  start = 1 ∷ 0 ∷ [];
  tally = 1 ∷ 1 ∷ 1 ∷ [];
  expected = done (1 ∷ 2 ∷ 0 ∷ []) (pos 0 ∷ pos 0 ∷ []) (0 ∷ []);
}

abbrev pub yields_above_one_add_up : Case
yields_above_one_add_up = record {
  net = tripler;
  start = 1 ∷ 0 ∷ [];
  tally = 2 ∷ 4 ∷ [];
  expected = done (0 ∷ 1 ∷ 0 ∷ 1 ∷ 1 ∷ 1 ∷ []) (pos 3 ∷ pos 2 ∷ [])
      (0 ∷ 1 ∷ 0 ∷ 1 ∷ 1 ∷ 1 ∷ []);
}

abbrev pub a_step_that_gives_its_block_back_goes_before_the_last : Case
a_step_that_gives_its_block_back_goes_before_the_last = record {
  net = spring;
  start = 1 ∷ 0 ∷ [];
  tally = 1 ∷ 2 ∷ [];
  expected = done (1 ∷ 1 ∷ 0 ∷ []) (pos 0 ∷ pos 5 ∷ []) (0 ∷ []);
}

abbrev pub the_last_block_may_go_where_it_comes_back : Case
the_last_block_may_go_where_it_comes_back = record {
  net = return;
  start = 1 ∷ 0 ∷ 0 ∷ [];
  tally = 1 ∷ 1 ∷ 1 ∷ [];
  expected = done (0 ∷ 1 ∷ 2 ∷ []) (pos 0 ∷ pos 0 ∷ pos 1 ∷ []) (0 ∷ 1 ∷ 2 ∷ []);
}

abbrev pub one_block_becomes_two : Case
one_block_becomes_two = record {
  net = fork;
  start = 1 ∷ 0 ∷ 0 ∷ [];
  tally = 2 ∷ 1 ∷ 1 ∷ [];
  expected = done (0 ∷ 1 ∷ 0 ∷ 2 ∷ []) (pos 1 ∷ pos 1 ∷ pos 1 ∷ []) (0 ∷ 1 ∷ 0 ∷ 2 ∷ []);
}

abbrev pub a_chain_leaves_one_order : Case
a_chain_leaves_one_order = record {
  net = chain;
  start = 1 ∷ 0 ∷ 0 ∷ 0 ∷ [];
  tally = 1 ∷ 1 ∷ 1 ∷ [];
  expected = done (2 ∷ 1 ∷ 0 ∷ []) (pos 0 ∷ pos 0 ∷ pos 0 ∷ pos 1 ∷ []) (2 ∷ 1 ∷ 0 ∷ []);
}

abbrev pub a_net_without_steps_keeps_its_blocks : Case
a_net_without_steps_keeps_its_blocks = record {
  net = still;
  start = 3 ∷ 4 ∷ [];
  tally = [];
  expected = done [] (pos 3 ∷ pos 4 ∷ []) [];
}

abbrev pub a_block_given_back_serves_again : Case
a_block_given_back_serves_again = record {
  net = idle;
  start = 1 ∷ [];
  tally = 4 ∷ [];
  expected = done (0 ∷ 0 ∷ 0 ∷ 0 ∷ []) (pos 1 ∷ []) (0 ∷ 0 ∷ 0 ∷ 0 ∷ []);
}

abbrev pub a_block_given_back_must_be_there : Case
a_block_given_back_must_be_there = record {
  net = idle;
  start = 0 ∷ [];
  tally = 4 ∷ [];
  expected = cannot (cut_off_at 0) (pos 0 ∷ []) [] (Some 0);
}

abbrev pub the_largest_yield : Case
the_largest_yield = record {
  net = burst;
  start = 1 ∷ 0 ∷ [];
  tally = 1 ∷ 2 ∷ [];
  expected = done (0 ∷ 1 ∷ 1 ∷ []) (pos 0 ∷ pos 253 ∷ []) (0 ∷ 1 ∷ 1 ∷ []);
}

abbrev pub short_is_named_before_cut_off : Case
short_is_named_before_cut_off = record {
  net = detour;
  start = 0 ∷ 0 ∷ 0 ∷ [];
  tally = 1 ∷ 0 ∷ 0 ∷ [];
  expected = cannot (short_at 0) (negsuc 0 ∷ pos 0 ∷ pos 1 ∷ []) [] (Some 0);
}

abbrev pub cases : List Case
cases =
    firing_any_step_sticks
    ∷ a_second_block_lets_it_go_first
    ∷ more_spent_than_gained_is_short
    ∷ final_numbers_alone_accept_too_much
    ∷ the_whole_net_hides_a_cut_off_place
    ∷ the_leading_step_in_the_tally_joins_the_rings
    ∷ a_gain_at_the_own_input_needs_a_block_first
    ∷ one_block_starts_the_doubler
    ∷ nothing_asked_is_done_by_the_empty_order
    ∷ two_blocks_pass_the_lock
    ∷ a_step_without_yields_comes_last
    ∷ yields_above_one_add_up
    ∷ a_step_that_gives_its_block_back_goes_before_the_last
    ∷ the_last_block_may_go_where_it_comes_back
    ∷ one_block_becomes_two
    ∷ a_chain_leaves_one_order
    ∷ a_net_without_steps_keeps_its_blocks
    ∷ a_block_given_back_serves_again
    ∷ a_block_given_back_must_be_there
    ∷ the_largest_yield
    ∷ short_is_named_before_cut_off
    ∷ []

-- each case comes out as worked out by hand
abbrev pub CasesHold : Type 0
CasesHold = map outcome cases ≡ map (λ c. c.expected) cases
