-- How many slots hold a number, as slots are looked at and written.
use Rattle.std.specs.Prelude.{◌≡◌, ℕ, zero, suc, ◌+◌, ◌<◌, ◌≤◌, List, [], ◌∷◌, length, drop, replicate, slice_index, slice_set, refl}
use Rattle.std.proofs.Common.{◌∙◌, ⊎_elim, arith}
use Rattle.std.proofs.lemmas.List.{at_drop_more, at_drop_all}
use Rattle.std.proofs.lemmas.Bool.{cases_eq}
use Rattle.theory.specs.Firing.{one_at}
use Rattle.theory.proofs.TallySums.{one_same, one_other}
use Rattle.slot_board.specs.Slots.{occurs}

pub occurs_none : (held : ℕ) → occurs held [] ≡ 0
unfolding occurs
occurs_none held = refl

pub occurs_cons : (held slot : ℕ) (slots : List ℕ) → occurs held (slot ∷ slots) ≡ one_at slot held + occurs held slots
unfolding occurs
occurs_cons held slot slots = refl

-- one slot more of those that are left
pub occurs_drop_more : (held : ℕ) (slots : List ℕ) (i : ℕ) → i < length slots → occurs held (drop i slots) ≡ one_at (slice_index slots i) held + occurs held (drop (i + 1) slots)
occurs_drop_more held slots i h =
    at_drop_more (occurs held) slots i 0 h ∙ occurs_cons held (slice_index slots i) (drop (i + 1) slots)

pub occurs_drop_all : (held : ℕ) (slots : List ℕ) (i : ℕ) → length slots ≤ i → occurs held (drop i slots) ≡ 0
occurs_drop_all held slots i h = at_drop_all (occurs held) slots i h ∙ occurs_none held

pub occurs_le_length : (held : ℕ) (slots : List ℕ) → occurs held slots ≤ length slots
unfolding occurs
occurs_le_length held [] = omega arith
occurs_le_length held (slot ∷ slots) =
    ⊎_elim
    (λ (e : slot ≡ held). omega (arith, one_same slot held e, occurs_le_length held slots))
    (λ ne. omega (arith, one_other slot held ne, occurs_le_length held slots))
    (cases_eq slot held)

pub occurs_zeros : (n : ℕ) → occurs 0 (replicate n 0) ≡ n
unfolding occurs
occurs_zeros zero = refl
occurs_zeros (suc n) = omega (arith, occurs_zeros n)

-- one slot written
pub occurs_set : (held : ℕ) (slots : List ℕ) (i new : ℕ) → i < length slots → occurs held (slice_set slots i new) + one_at (slice_index slots i) held ≡ occurs held slots + one_at new held
unfolding occurs
occurs_set held [] i new h = omega arith
occurs_set held (slot ∷ slots) zero new h = omega arith
occurs_set held (slot ∷ slots) (suc i) new h =
    omega (arith, occurs_set held slots i new (omega arith))
