use Rattle.std.specs.Prelude.{ℕ, List, [], ◌∷◌, ◌++◌, replicate}

-- the slots of runs, each a length and what its slots hold
abbrev pub slots_of : List ℕ → List ℕ
slots_of [] = []
slots_of (length ∷ []) = []
slots_of (length ∷ held ∷ runs) = replicate length held ++ slots_of runs
