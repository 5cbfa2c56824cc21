-- Rows of numbers as functions of the index, and back.
use Rattle.std.specs.Prelude.{ℕ, zero, suc, List, [], ◌∷◌, ◌++◌, Option, slice_index}
use Rattle.std.specs.Option.{option_to_list}

-- a row as a function of the index, 0 past its end
abbrev pub at : List ℕ → ℕ → ℕ
at row i = slice_index row i

-- the row f 0 .. f (n - 1)
abbrev pub row_of : {A : Type 0} → (ℕ → A) → ℕ → List A
row_of f zero = []
row_of f (suc n) = row_of f n ++ (f n ∷ [])

-- all that is found at the numbers below n, by rising number
abbrev pub found_below : {A : Type 0} → (ℕ → Option A) → ℕ → List A
found_below find zero = []
found_below find (suc n) = found_below find n ++ option_to_list (find n)
