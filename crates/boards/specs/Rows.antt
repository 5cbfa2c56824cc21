-- What the count board's load answers and leaves, and rows whose numbers have moved.
use Rattle.std.specs.Prelude.{◌≡◌, ℕ, ◌+◌, List, length, Ok, Err, Result}
use Rattle.refusals.specs.declared.Refusal.{Refusal}
use Rattle.refusals.specs.declared.Refusal.TheVariants.{BoardRowUnfit}
use Rattle.theory.specs.Rows.{at}
use Rattle.boards.specs.Boards.{BoardLaw, Unchanged}

-- the row has 64 counts and keeps the law with the spare: the board now holds both
pub record Loaded (row : List ℕ) (spare : ℕ) (counts' : ℕ → ℕ) (spare' : ℕ) : Type 0 where
  pub long : length row ≡ 64
  pub lawful : BoardLaw (at row) spare
  pub counts_given : (p : ℕ) → counts' p ≡ at row p
  pub spare_given : spare' ≡ spare

-- the row has another length, or breaks the law with the spare
pub record LoadRefused (row : List ℕ) (spare : ℕ) (e : Refusal) : Type 0 where
  pub why : length row ≡ 64 → BoardLaw (at row) spare → ⊥
  pub named : e ≡ BoardRowUnfit

-- what load answers, from the counts and spare before it to those after it
abbrev pub LoadSays : {X : Type 0} → List ℕ → ℕ → (ℕ → ℕ) → ℕ → Result X Refusal →
    (ℕ → ℕ) → ℕ → Type 0
LoadSays row given counts spare (Ok x) counts' spare' = Loaded row given counts' spare'
LoadSays row given counts spare (Err e) counts' spare' =
    LoadRefused row given e × Unchanged counts spare counts' spare'

-- a row of 64 with the counts less what is taken and with what is put at each place
pub record RowMoved (counts taken put row : List ℕ) : Type 0 where
  pub long : length row ≡ 64
  pub moved : (p : ℕ) → at row p + at taken p ≡ at counts p + at put p
