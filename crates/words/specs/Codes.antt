-- The code of a line, and the row of a renaming.
use Rattle.std.specs.Prelude.{ℕ, ◌-◌, List, ◌++◌, length, ◌==◌}
use Rattle.std.specs.List.{before_first, range_with_len}
use Rattle.std.specs.Str.{trim}

-- a line up to its first '#', without the spaces around it
abbrev pub code_of : List ℕ → List ℕ
code_of line = trim (before_first (λ c. c == 35) line)

-- the numbers, and then each place past them
abbrev pub renaming_of : List ℕ → List ℕ
renaming_of numbers = numbers ++ range_with_len (length numbers) (64 - length numbers)
