-- The makes of net, by their words.
use Rattle.std.specs.Prelude.{◌≡◌, ℕ, List, Result, Ok, codes, IfOk}
use Rattle.words.specs.declared.make.Make.{Make}
use Rattle.words.specs.declared.make.Make.TheVariants.{Grid, Chained}
use Rattle.words.specs.declared.make.UnknownMake.{UnknownMake}

-- the word for a make
abbrev pub make_name : Make → List ℕ
make_name Grid = codes "grid"
make_name Chained = codes "chained"

-- what is read is the make whose word it is, and the word of a make is read
abbrev pub ReadsMake : List ℕ → Result Make UnknownMake → Type 0
ReadsMake word read = IfOk read (λ make. word ≡ make_name make)
    × (word ≡ make_name Grid → read ≡ Ok Grid) × (word ≡ make_name Chained → read ≡ Ok Chained)
