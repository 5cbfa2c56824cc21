-- Worked sheets: whole sheets in bytes and the line of each, worked out by hand, and proved by one computed check.
use Rattle.std.specs.Prelude.{◌≡◌, ℕ, zero, suc, List, [], ◌∷◌, ◌++◌, map, codes}
use Rattle.sheets.specs.Verdicts.{sheet_line}

pub record Case : Type 0 where
  pub sheet : List ℕ
  pub line : List ℕ

-- these bytes are judged by this line
abbrev pub says : List ℕ → List ℕ → Case
says sheet line = record { sheet = sheet; line = line ++ (10 ∷ []) }

-- the four parts behind the net: start counts, tallies, kind, targets
abbrev pub asks : List ℕ → List ℕ → List ℕ → ℕ → List ℕ → List ℕ
asks net starts tallies kind targets = net ++ (starts ++ (tallies ++ (kind ∷ targets)))

-- ON THE DETOUR

-- three places, three steps, three arcs; the steps' inputs and first arcs; the arcs, each the only one of its step
abbrev pub detour : List ℕ
detour =
    (3 ∷ 3 ∷ 0 ∷ 3 ∷ [])
    ++ ((0 ∷ 0 ∷ 1 ∷ []) ++ ((0 ∷ 0 ∷ 2 ∷ []) ++ ((1 ∷ 0 ∷ 3 ∷ [])
    ++ ((2 ∷ 1 ∷ 0 ∷ 0 ∷ []) ++ ((1 ∷ 1 ∷ 0 ∷ 0 ∷ []) ++ (0 ∷ 1 ∷ 0 ∷ 0 ∷ []))))))

-- a small number in four bytes, at each of three places; and in two bytes, for each of three steps
abbrev pub at_three : ℕ → ℕ → ℕ → List ℕ
at_three a b c = 0 ∷ 0 ∷ 0 ∷ a ∷ 0 ∷ 0 ∷ 0 ∷ b ∷ 0 ∷ 0 ∷ 0 ∷ c ∷ []

abbrev pub of_three : ℕ → ℕ → ℕ → List ℕ
of_three a b c = 0 ∷ a ∷ 0 ∷ b ∷ 0 ∷ c ∷ []

abbrev pub the_detour_is_taken_first : Case
the_detour_is_taken_first = says (asks detour (at_three 1 0 0) (of_three 1 1 1) 0 (at_three 0 0 1)) (codes "ok 1 2 0")

-- step 2 takes two blocks at place 1, where one comes
abbrev pub a_short_place : Case
a_short_place = says (asks detour (at_three 1 0 0) (of_three 0 1 2) 1 (at_three 0 0 0)) (codes "no 11 1")

-- no block ever comes to places 0 and 1
abbrev pub a_cut_off_place : Case
a_cut_off_place = says (asks detour (at_three 0 0 1) (of_three 0 1 1) 0 (at_three 0 0 1)) (codes "no 12 0")

-- one block is left at place 2
abbrev pub a_missed_place : Case
a_missed_place = says (asks detour (at_three 1 0 0) (of_three 1 1 1) 0 (at_three 0 0 2)) (codes "no 13 2")

abbrev pub more_is_left_than_is_asked_at_least : Case
more_is_left_than_is_asked_at_least =
    says (asks detour (at_three 2 0 0) (of_three 1 1 1) 1 (at_three 0 0 1)) (codes "ok 0 1 2")

abbrev pub an_unknown_kind : Case
an_unknown_kind = says (asks detour (at_three 1 0 0) (of_three 1 1 1) 2 (at_three 0 0 1)) (codes "no 7 0")

abbrev pub a_byte_too_many : Case
a_byte_too_many = says (asks detour (at_three 1 0 0) (of_three 1 1 1) 0 (at_three 0 0 1) ++ (0 ∷ [])) (codes "no 1 0")

-- THE FORM, THE FIRST FAULT OF ITS SEQUENCE

abbrev pub a_head_too_short : Case
a_head_too_short = says (3 ∷ 3 ∷ 0 ∷ []) (codes "no 1 0")

abbrev pub no_places : Case
no_places = says (0 ∷ 0 ∷ 0 ∷ 0 ∷ []) (codes "no 2 0")

abbrev pub places_65 : Case
places_65 = says (65 ∷ 0 ∷ 0 ∷ 0 ∷ []) (codes "no 2 0")

abbrev pub steps_129 : Case
steps_129 = says (1 ∷ 129 ∷ 0 ∷ 0 ∷ []) (codes "no 3 0")

-- 4 × 256 arcs
abbrev pub arcs_1024 : Case
arcs_1024 = says (1 ∷ 0 ∷ 4 ∷ 0 ∷ []) (codes "no 3 0")

-- 64 places, 128 steps and 3 × 256 + 255 arcs are no fault; the length is
abbrev pub a_head_at_its_limits : Case
a_head_at_its_limits = says (64 ∷ 128 ∷ 3 ∷ 255 ∷ []) (codes "no 1 0")

-- one place and two steps, whose inputs, first arcs and one arc follow; one block, each step once, at least 0
abbrev pub two_steps : List ℕ → List ℕ → List ℕ → List ℕ
two_steps step0 step1 arc =
    asks ((1 ∷ 2 ∷ 0 ∷ 1 ∷ []) ++ (step0 ++ (step1 ++ arc))) (0 ∷ 0 ∷ 0 ∷ 1 ∷ [])
    (0 ∷ 1 ∷ 0 ∷ 1 ∷ []) 1 (0 ∷ 0 ∷ 0 ∷ 0 ∷ [])

abbrev pub both_steps_share_an_arc : Case
both_steps_share_an_arc = says (two_steps (0 ∷ 0 ∷ 1 ∷ []) (0 ∷ 0 ∷ 1 ∷ [])
    (0 ∷ 1 ∷ 0 ∷ 0 ∷ [])) (codes "ok 0 1")

abbrev pub an_input_past_the_places : Case
an_input_past_the_places = says (two_steps (0 ∷ 0 ∷ 1 ∷ []) (1 ∷ 0 ∷ 1 ∷ [])
    (0 ∷ 1 ∷ 0 ∷ 0 ∷ [])) (codes "no 4 1")

abbrev pub a_first_arc_past_the_arcs : Case
a_first_arc_past_the_arcs = says (two_steps (0 ∷ 0 ∷ 2 ∷ []) (0 ∷ 0 ∷ 1 ∷ [])
    (0 ∷ 1 ∷ 0 ∷ 0 ∷ [])) (codes "no 4 0")

abbrev pub an_arc_without_weight : Case
an_arc_without_weight = says (two_steps (0 ∷ 0 ∷ 1 ∷ []) (0 ∷ 0 ∷ 1 ∷ [])
    (0 ∷ 0 ∷ 0 ∷ 0 ∷ [])) (codes "no 5 1")

abbrev pub an_arc_that_follows_itself : Case
an_arc_that_follows_itself =
    says (two_steps (0 ∷ 0 ∷ 1 ∷ []) (0 ∷ 0 ∷ 1 ∷ []) (0 ∷ 1 ∷ 0 ∷ 1 ∷ [])) (codes "no 5 1")

abbrev pub a_step_without_arcs : Case
a_step_without_arcs = says (two_steps (0 ∷ 0 ∷ 1 ∷ []) (0 ∷ 0 ∷ 0 ∷ [])
    (0 ∷ 1 ∷ 0 ∷ 0 ∷ [])) (codes "no 6 1")

-- AT THE EDGES

-- one place and no steps: the start count in four bytes, and exactly as many are left
abbrev pub stays : List ℕ → List ℕ
stays count = asks (1 ∷ 0 ∷ 0 ∷ 0 ∷ []) count [] 0 count

-- 127 × 16777216 + 240 × 65536 + 189 × 256 + 191 = 2146483647, and a million more are 2147483647
abbrev pub start_at_the_edge_of_the_law : Case
start_at_the_edge_of_the_law = says (stays (127 ∷ 240 ∷ 189 ∷ 191 ∷ [])) (codes "ok")

abbrev pub start_one_past_the_law : Case
start_one_past_the_law = says (stays (127 ∷ 240 ∷ 189 ∷ 192 ∷ [])) (codes "no 19 0")

-- one place, with one block, and two steps that yield 250 and 1 there; an exact target
abbrev pub yields_250_and_1 : List ℕ → List ℕ → List ℕ
yields_250_and_1 tallies targets =
    asks
    ((1 ∷ 2 ∷ 0 ∷ 2 ∷ []) ++ ((0 ∷ 0 ∷ 1 ∷ [])
    ++ ((0 ∷ 0 ∷ 2 ∷ []) ++ ((0 ∷ 250 ∷ 0 ∷ 0 ∷ []) ++ (0 ∷ 1 ∷ 0 ∷ 0 ∷ [])))))
    (0 ∷ 0 ∷ 0 ∷ 1 ∷ []) tallies 0 targets

-- a word so many times over
abbrev pub times_over : ℕ → List ℕ → List ℕ
times_over zero word = []
times_over (suc n) word = word ++ times_over n word

-- 15 × 65536 + 50 × 256 + 161 = 996001
abbrev pub blocks_996001 : List ℕ
blocks_996001 = 0 ∷ 15 ∷ 50 ∷ 161 ∷ []

-- 4,000 (15 × 256 + 160) and 0 times: the yields are 1,000,000, and 1 - 4,000 + 1,000,000 blocks are left
abbrev pub yields_of_a_million : Case
yields_of_a_million =
    says (yields_250_and_1 (15 ∷ 160 ∷ 0 ∷ 0 ∷ []) blocks_996001) (codes "ok" ++ times_over 4000 (codes " 0"))

-- 4,000 and 1 times: 1 - 4,001 + 1,000,001 blocks would be left
abbrev pub yields_of_a_million_and_one : Case
yields_of_a_million_and_one = says (yields_250_and_1 (15 ∷ 160 ∷ 0 ∷ 1 ∷ []) blocks_996001) (codes "no 10 0")

-- step 1 alone gives back the one block that it takes; 16 × 256 = 4096
abbrev pub a_tally_of_4096 : Case
a_tally_of_4096 =
    says (yields_250_and_1 (0 ∷ 0 ∷ 16 ∷ 0 ∷ []) (0 ∷ 0 ∷ 0 ∷ 1 ∷ []))
    (codes "ok" ++ times_over 4096 (codes " 1"))

abbrev pub a_tally_of_4097 : Case
a_tally_of_4097 = says (yields_250_and_1 (0 ∷ 0 ∷ 16 ∷ 1 ∷ []) (0 ∷ 0 ∷ 0 ∷ 1 ∷ [])) (codes "no 9 0")

abbrev pub a_tally_of_65535 : Case
a_tally_of_65535 = says (yields_250_and_1 (0 ∷ 0 ∷ 255 ∷ 255 ∷ []) (0 ∷ 0 ∷ 0 ∷ 0 ∷ []))
    (codes "no 9 0")

abbrev pub a_tally_of_65536 : Case
a_tally_of_65536 = says (yields_250_and_1 (0 ∷ 1 ∷ 255 ∷ 255 ∷ []) (0 ∷ 0 ∷ 0 ∷ 0 ∷ []))
    (codes "no 8 0")

-- ARCS AS THEY ARE LINKED

-- two numbers in four bytes each
abbrev pub at_two : ℕ → ℕ → List ℕ
at_two a b = 0 ∷ 0 ∷ 0 ∷ a ∷ 0 ∷ 0 ∷ 0 ∷ b ∷ []

-- arc 1 leads to arc 3 and passes over arc 2, where the other step begins
abbrev pub an_arc_that_passes_over_one : Case
an_arc_that_passes_over_one =
    says
    (asks
    ((2 ∷ 2 ∷ 0 ∷ 3 ∷ []) ++ ((0 ∷ 0 ∷ 1 ∷ []) ++ ((0 ∷ 0 ∷ 2 ∷ [])
    ++ ((0 ∷ 1 ∷ 0 ∷ 3 ∷ []) ++ ((0 ∷ 2 ∷ 0 ∷ 0 ∷ []) ++ (1 ∷ 1 ∷ 0 ∷ 0 ∷ []))))))
    (at_two 1 0) (0 ∷ 1 ∷ 0 ∷ 0 ∷ []) 0 (at_two 1 1))
    (codes "ok 0")

-- arc 2 is on no chain, and has no weight
abbrev pub an_unfit_arc_on_no_chain : Case
an_unfit_arc_on_no_chain =
    says
    (asks
    ((1 ∷ 1 ∷ 0 ∷ 2 ∷ []) ++ ((0 ∷ 0 ∷ 1 ∷ [])
    ++ ((0 ∷ 1 ∷ 0 ∷ 0 ∷ []) ++ (0 ∷ 0 ∷ 0 ∷ 0 ∷ []))))
    (0 ∷ 0 ∷ 0 ∷ 1 ∷ []) (0 ∷ 1 ∷ []) 0 (0 ∷ 0 ∷ 0 ∷ 1 ∷ []))
    (codes "no 5 2")

-- arc 2 leads back to arc 1, though to a higher place
abbrev pub an_arc_that_leads_back : Case
an_arc_that_leads_back =
    says
    (asks
    ((2 ∷ 1 ∷ 0 ∷ 2 ∷ []) ++ ((0 ∷ 0 ∷ 2 ∷ [])
    ++ ((1 ∷ 1 ∷ 0 ∷ 0 ∷ []) ++ (0 ∷ 1 ∷ 0 ∷ 1 ∷ []))))
    (at_two 1 0) (0 ∷ 1 ∷ []) 0 (at_two 1 1))
    (codes "no 5 2")

-- TWO AT FAULT: THE EARLIER CHECK DECIDES

abbrev pub an_unknown_kind_and_a_start_past_the_law : Case
an_unknown_kind_and_a_start_past_the_law =
    says (asks (1 ∷ 0 ∷ 0 ∷ 0 ∷ []) (255 ∷ 0 ∷ 0 ∷ 0 ∷ []) [] 2 (0 ∷ 0 ∷ 0 ∷ 0 ∷ []))
    (codes "no 7 0")

abbrev pub a_start_past_the_law_and_too_many_steps : Case
a_start_past_the_law_and_too_many_steps =
    says
    (asks
    ((1 ∷ 2 ∷ 0 ∷ 1 ∷ []) ++ ((0 ∷ 0 ∷ 1 ∷ [])
    ++ ((0 ∷ 0 ∷ 1 ∷ []) ++ (0 ∷ 1 ∷ 0 ∷ 0 ∷ []))))
    (255 ∷ 0 ∷ 0 ∷ 0 ∷ []) (255 ∷ 255 ∷ 0 ∷ 1 ∷ []) 0 (0 ∷ 0 ∷ 0 ∷ 0 ∷ []))
    (codes "no 19 0")

abbrev pub cases : List Case
cases =
    the_detour_is_taken_first
    ∷ a_short_place
    ∷ a_cut_off_place
    ∷ a_missed_place
    ∷ more_is_left_than_is_asked_at_least
    ∷ an_unknown_kind
    ∷ a_byte_too_many
    ∷ a_head_too_short
    ∷ no_places
    ∷ places_65
    ∷ steps_129
    ∷ arcs_1024
    ∷ a_head_at_its_limits
    ∷ both_steps_share_an_arc
    ∷ an_input_past_the_places
    ∷ a_first_arc_past_the_arcs
    ∷ an_arc_without_weight
    ∷ an_arc_that_follows_itself
    ∷ a_step_without_arcs
    ∷ start_at_the_edge_of_the_law
    ∷ start_one_past_the_law
    ∷ yields_of_a_million
    ∷ yields_of_a_million_and_one
    ∷ a_tally_of_4096
    ∷ a_tally_of_4097
    ∷ a_tally_of_65535
    ∷ a_tally_of_65536
    ∷ an_unknown_kind_and_a_start_past_the_law
    ∷ an_arc_that_passes_over_one
    ∷ an_unfit_arc_on_no_chain
    ∷ an_arc_that_leads_back
    ∷ a_start_past_the_law_and_too_many_steps
    ∷ []

-- each sheet has the line that was worked out by hand
abbrev pub CasesHold : Type 0
CasesHold = map (λ c. sheet_line c.sheet) cases ≡ map (λ c. c.line) cases
