-- The lowest slot that holds a number.
use Rattle.std.proofs.Common.{◌≡◌, ℕ, zero, suc, ◌<◌, eqb, List, [], ◌∷◌, length, get_or, sym, ap, ◌∙◌, ⊎_elim, arith}
use Rattle.std.proofs.lemmas.Bool.{cases_eq, eq-eqb, ne_eqb, cond-true, cond-false}
use Rattle.slot_board.specs.Slots.{occurs, lowest_with}
use Rattle.slot_board.specs.Passes.{FirstAt}
use Rattle.theory.proofs.TallySums.{one_same, one_other}

lowest_here : (held slot : ℕ) (slots : List ℕ) → slot ≡ held → lowest_with held (slot ∷ slots) ≡ 0
unfolding lowest_with
lowest_here held slot slots e =
    cond-true (eqb slot held) 0 (suc (lowest_with held slots)) (eq-eqb slot held e)

lowest_later : (held slot : ℕ) (slots : List ℕ) → (slot ≡ held → ⊥) → lowest_with held (slot ∷ slots) ≡ suc (lowest_with held slots)
unfolding lowest_with
lowest_later held slot slots ne =
    cond-false (eqb slot held) 0 (suc (lowest_with held slots)) (ne_eqb slot held ne)

-- the first slot that holds a number is the lowest
pub first_is_lowest : (held : ℕ) (slots : List ℕ) (i : ℕ) → FirstAt held slots i → i ≡ lowest_with held slots
first_is_lowest held [] i first = absurd (omega (arith, first.inside))
first_is_lowest held (slot ∷ slots) zero first =
    sym (lowest_here held slot slots first.holds)
first_is_lowest held (slot ∷ slots) (suc i) first =
    let rest = first_is_lowest held slots i (record { inside = omega (arith, first.inside); holds = first.holds; before = λ k h. first.before (suc k) (omega arith) }) in
    omega (arith, rest, lowest_later held slot slots (first.before 0 (omega arith)))

pub holds_occurs : (held : ℕ) (slots : List ℕ) (i : ℕ) → i < length slots → get_or slots i 0 ≡ held → 0 < occurs held slots
unfolding occurs
holds_occurs held [] i h e = omega arith
holds_occurs held (slot ∷ slots) zero h e = omega (arith, one_same slot held e)
holds_occurs held (slot ∷ slots) (suc i) h e =
    omega (arith, holds_occurs held slots i (omega arith) e)

-- where a number occurs, its lowest slot is a slot
pub lowest_inside : (held : ℕ) (slots : List ℕ) → 0 < occurs held slots → lowest_with held slots < length slots
unfolding occurs
lowest_inside held [] h = omega arith
lowest_inside held (slot ∷ slots) h =
    ⊎_elim
    (λ (e : slot ≡ held). omega (arith, lowest_here held slot slots e))
    (λ ne. omega (arith, lowest_later held slot slots ne, lowest_inside held slots (omega (arith, one_other slot held ne))))
    (cases_eq slot held)

-- and holds the number
pub lowest_holds : (held : ℕ) (slots : List ℕ) → 0 < occurs held slots → get_or slots (lowest_with held slots) 0 ≡ held
unfolding occurs
lowest_holds held [] h = omega arith
lowest_holds held (slot ∷ slots) h =
    ⊎_elim
    (λ (e : slot ≡ held). ap (λ i. get_or (slot ∷ slots) i 0) (lowest_here held slot slots e) ∙ e)
    (λ ne. ap (λ i. get_or (slot ∷ slots) i 0) (lowest_later held slot slots ne) ∙ lowest_holds held slots (omega (arith, one_other slot held ne)))
    (cases_eq slot held)
