-- Worked files: nets as grid and chained files, byte by byte, worked out by hand, and proved by one computed check.
use Rattle.std.specs.Prelude.{◌≡◌, ℕ, List, [], ◌∷◌, ◌++◌, map}
use Rattle.theory.specs.Nets.{NetMeaning}
use Rattle.theory.specs.Cases.{net_of, detour}
use Rattle.formats.specs.Complete.{grid_file, chained_file}

-- the two files of a net
pub record Files : Type 0 where
  pub grid : List ℕ
  pub chained : List ℕ

pub record Case : Type 0 where
  pub net : NetMeaning
  pub expected : Files

abbrev pub files_of : Case → Files
files_of c = record { grid = grid_file c.net; chained = chained_file c.net }

-- three places and three steps, each with one yield
abbrev pub one_arc_each : Case
one_arc_each = record {
  net = detour;
  expected = record {
    grid = (3 ∷ 3 ∷ []) ++ ((0 ∷ 0 ∷ 0 ∷ 1 ∷ [])
        ++ ((0 ∷ 0 ∷ 1 ∷ 0 ∷ []) ++ (1 ∷ 1 ∷ 0 ∷ 0 ∷ [])));
    chained = (3 ∷ 3 ∷ 0 ∷ 3 ∷ [])
        ++ ((0 ∷ 0 ∷ 1 ∷ []) ++ ((0 ∷ 0 ∷ 2 ∷ []) ++ ((1 ∷ 0 ∷ 3 ∷ [])
        ++ ((2 ∷ 1 ∷ 0 ∷ 0 ∷ []) ++ ((1 ∷ 1 ∷ 0 ∷ 0 ∷ []) ++ (0 ∷ 1 ∷ 0 ∷ 0 ∷ []))))));
  };
}

-- two places and one step, which yields 1 at place 0 and 3 at place 1
abbrev pub two_arcs_of_a_chain : Case
two_arcs_of_a_chain = record {
  net = net_of 2 1 (0 ∷ []) ((1 ∷ 3 ∷ []) ∷ []);
  expected = record {
    grid = (2 ∷ 1 ∷ []) ++ (0 ∷ 1 ∷ 3 ∷ []);
    chained = (2 ∷ 1 ∷ 0 ∷ 2 ∷ []) ++ ((0 ∷ 0 ∷ 1 ∷ [])
        ++ ((0 ∷ 1 ∷ 0 ∷ 2 ∷ []) ++ (1 ∷ 3 ∷ 0 ∷ 0 ∷ [])));
  };
}

abbrev pub cases : List Case
cases = one_arc_each ∷ two_arcs_of_a_chain ∷ []

-- each net has the files that were worked out by hand
abbrev pub CasesHold : Type 0
CasesHold = map files_of cases ≡ map (λ c. c.expected) cases
