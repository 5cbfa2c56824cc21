-- The line of a verdict, and what is left of text memory that it is written into.
use Rattle.std.specs.Prelude.{◌≡◌, ℕ, ◌+◌, ◌/◌, ◌%◌, ◌<◌, ◌≤◌, List, [], ◌∷◌}
use Rattle.std.specs.Prelude.{◌++◌, length, take, Ok, Err, codes, decimal, Result}
use Rattle.refusals.specs.Refusals.{number_of, detail_of}
use Rattle.refusals.specs.declared.Refusal.{Refusal}
use Rattle.refusals.specs.declared.Refusal.TheVariants.{TextMemoryShort}
use Rattle.answers.specs.Answers.{written}

-- each number in decimal, after a space
abbrev pub numbers : List ℕ → List ℕ
numbers [] = []
numbers (n ∷ ns) = (32 ∷ decimal n) ++ numbers ns

-- the three digits of a number below 1,000, zeros in front too
abbrev pub three_digits : ℕ → List ℕ
three_digits n = (48 + n / 100) ∷ (48 + n % 100 / 10) ∷ (48 + n % 100 % 10) ∷ []

-- a word, the numbers, and the byte that ends the line
abbrev pub words : List ℕ → List ℕ → List ℕ
words word row = word ++ (numbers row ++ (10 ∷ []))

-- the line of an accepted sheet: `ok` and the steps of the order
abbrev pub ok_line : List ℕ → List ℕ
ok_line order = words (codes "ok") order

-- the line of a refused sheet has two numbers: which refusal, and what it names
abbrev pub no_line : Refusal → List ℕ
no_line e = words (codes "no") (number_of e ∷ detail_of e ∷ [])

-- these bytes are put into a line from a position on, up to an end, and the line in front of them is the same
pub record Puts (bytes before : List ℕ) (begin : ℕ) (after : List ℕ) (end : ℕ) : Type 0 where
  pub ends : end ≡ begin + length bytes
  pub front : take end after ≡ take begin before ++ bytes

-- what writing a line answers and leaves
abbrev pub LineWritten : List ℕ → List ℕ → Result ℕ Refusal → List ℕ → Type 0
LineWritten line text (Ok n) text' = (length line ≤ length text) × (n ≡ length line)
    × (text' ≡ written line text)
LineWritten line text (Err e) text' = (length text < length line) × (e ≡ TextMemoryShort) × (text' ≡ text)
