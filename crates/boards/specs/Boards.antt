-- The law of every board, and what take, put and move_all answer and leave.
use Rattle.std.specs.Prelude.{◌≡◌, ℕ, ◌+◌, ◌-◌, ◌<◌, ◌≤◌, Bool, true, false, ◌⊎◌, Ok}
use Rattle.std.specs.Prelude.{Err, Result}
use Rattle.theory.specs.Sums.{sum_to}
use Rattle.theory.specs.Firing.{only_at}
use Rattle.refusals.specs.declared.Refusal.{Refusal}
use Rattle.refusals.specs.declared.Refusal.TheVariants.{NoSuchPlace, PlaceEmpty, PutAboveSpare}

-- the room of the largest board, in blocks; a signed number of 32 bits holds it
abbrev pub board_limit : ℕ
board_limit = 2147483647

-- the law of every board: what lies on it and what still fits is no more than the largest board has room for
abbrev pub BoardLaw : (ℕ → ℕ) → ℕ → Type 0
BoardLaw counts spare = sum_to counts 64 + spare ≤ board_limit

-- every count and spare are as they were
pub record Unchanged (counts : ℕ → ℕ) (spare : ℕ) (counts' : ℕ → ℕ) (spare' : ℕ) : Type 0 where
  pub counts_kept : (p : ℕ) → counts' p ≡ counts p
  pub spare_kept : spare' ≡ spare

-- one block has moved from the place to spare
pub record Taken (place : ℕ) (counts : ℕ → ℕ) (spare : ℕ) (counts' : ℕ → ℕ)
    (spare' : ℕ) : Type 0 where
  pub inside : place ≤ 63
  pub filled : 0 < counts place
  pub lowered : (p : ℕ) → counts' p ≡ counts p - only_at place p 1
  pub raised : spare' ≡ spare + 1

-- n blocks have moved from spare to the place
pub record Put (place n : ℕ) (counts : ℕ → ℕ) (spare : ℕ) (counts' : ℕ → ℕ)
    (spare' : ℕ) : Type 0 where
  pub inside : place ≤ 63
  pub enough : n ≤ spare
  pub raised : (p : ℕ) → counts' p ≡ counts p + only_at place p n
  pub lowered : spare' + n ≡ spare

-- why a take is refused
abbrev pub TakeRefused : ℕ → (ℕ → ℕ) → Refusal → Type 0
TakeRefused place counts e = ((63 < place) × (e ≡ NoSuchPlace))
    ⊎ ((place ≤ 63) × (counts place ≡ 0) × (e ≡ PlaceEmpty place))

-- why a put is refused
abbrev pub PutRefused : ℕ → ℕ → ℕ → Refusal → Type 0
PutRefused place n spare e = ((63 < place) × (e ≡ NoSuchPlace))
    ⊎ ((place ≤ 63) × (spare < n) × (e ≡ PutAboveSpare place))

-- which index a place gets, and why it gets none
abbrev pub IndexSays : ℕ → Result ℕ Refusal → Type 0
IndexSays place (Ok i) = (place ≤ 63) × (i ≡ place)
IndexSays place (Err e) = (63 < place) × (e ≡ NoSuchPlace)

-- what take answers, from the counts and spare before it to those after it
abbrev pub TakeSays : {X : Type 0} → ℕ → (ℕ → ℕ) → ℕ → Result X Refusal →
    (ℕ → ℕ) → ℕ → Type 0
TakeSays place counts spare (Ok x) counts' spare' = Taken place counts spare counts' spare'
TakeSays place counts spare (Err e) counts' spare' =
    TakeRefused place counts e × Unchanged counts spare counts' spare'

-- what put answers, from the counts and spare before it to those after it
abbrev pub PutSays : {X : Type 0} → ℕ → ℕ → (ℕ → ℕ) → ℕ → Result X Refusal →
    (ℕ → ℕ) → ℕ → Type 0
PutSays place n counts spare (Ok x) counts' spare' = Put place n counts spare counts' spare'
PutSays place n counts spare (Err e) counts' spare' =
    PutRefused place n spare e × Unchanged counts spare counts' spare'

-- so many blocks have moved from and to each place, and between the places and spare
pub record MovedAll (taken put : ℕ → ℕ) (all_taken all_put : ℕ) (counts : ℕ → ℕ) (spare : ℕ)
    (counts' : ℕ → ℕ) (spare' : ℕ) : Type 0 where
  pub counts_moved : (p : ℕ) → counts' p + taken p ≡ counts p + put p
  pub spare_moved : spare' + all_put ≡ spare + all_taken

-- what move_all answers, from the counts and spare before it to those after it
abbrev pub MoveAllSays : (ℕ → ℕ) → (ℕ → ℕ) → ℕ → ℕ → (ℕ → ℕ) → ℕ →
    Bool → (ℕ → ℕ) → ℕ → Type 0
MoveAllSays taken put all_taken all_put counts spare true counts' spare' =
    MovedAll taken put all_taken all_put counts spare counts' spare'
MoveAllSays taken put all_taken all_put counts spare false counts' spare' = Unchanged counts spare counts' spare'
