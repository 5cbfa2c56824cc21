-- What is printed of counts.
use Rattle.std.specs.Prelude.{ℕ, List, ◌++◌, codes, decimal, map}
use Rattle.std.specs.BTreeMap.{BTreeMap}
use Rattle.std.specs.List.{concat}
use Rattle.comparisons.specs.Counted.{count_at}
use Rattle.comparisons.specs.declared.outcomes.Outcomes.{Outcomes}

abbrev pub shown_outcomes : Outcomes → List ℕ
shown_outcomes outcomes = decimal outcomes.accepted
    ++ (codes " accepted, " ++ (decimal outcomes.refused ++ codes " refused"))

-- the line of a refusal's number, with how many calls were refused with it
abbrev pub count_line : ℕ → ℕ → List ℕ
count_line number count = codes "refusal " ++ (decimal number ++ (codes ": " ++ (decimal count ++ codes "\n")))

-- the lines of numbers, one after the other
abbrev pub count_lines : BTreeMap ℕ ℕ → List ℕ → List ℕ
count_lines counts numbers = concat (map (λ number. count_line number (count_at counts number)) numbers)
