-- The slots with n empty ones filled, from the highest down.
use Rattle.std.proofs.Common.{◌≡◌, ℕ, zero, suc, ◌+◌, ◌-◌, ◌<◌, ◌≤◌, min, ◌&&◌, eqb, ltb, ◌⊎◌, List, [], ◌∷◌, ◌++◌, length, get_or, sym, refl, ap, ◌∙◌, inl, inr, ⊎_elim, arith}
use Rattle.std.proofs.lemmas.Bool.{cases_eq, cases_lt, eq-eqb, ne_eqb, lt-ltb, le-ltb, cond-true, cond-false, cond_both, and_from, and_left, and_right}
use Rattle.slot_board.specs.Slots.{occurs, filled}
use Rattle.slot_board.specs.Passes.{HighestFilled}
use Rattle.slot_board.proofs.LowestSlot.{holds_occurs}
use Rattle.theory.proofs.TallySums.{one_same, one_other}
use Rattle.slot_board.proofs.Occurring.{occurs_none, occurs_cons}

pub filled_none : (held n : ℕ) → filled held n [] ≡ []
unfolding filled
filled_none held n = refl

-- an empty slot is filled where fewer than n above it are empty
pub filled_here : (held n slot : ℕ) (slots : List ℕ) → slot ≡ 0 → occurs 0 slots < n → filled held n (slot ∷ slots) ≡ held ∷ filled held n slots
unfolding filled
filled_here held n slot slots e h =
    ap (λ x. x ∷ filled held n slots) (cond-true (eqb slot 0 && ltb (occurs 0 slots) n) held slot (and_from (eqb slot 0) (ltb (occurs 0 slots) n) (eq-eqb slot 0 e) (lt-ltb (occurs 0 slots) n h)))

-- a slot with a block stays
pub filled_block : (held n slot : ℕ) (slots : List ℕ) → (slot ≡ 0 → ⊥) → filled held n (slot ∷ slots) ≡ slot ∷ filled held n slots
unfolding filled
filled_block held n slot slots ne =
    ap (λ x. x ∷ filled held n slots) (cond-false (eqb slot 0 && ltb (occurs 0 slots) n) held slot (and_left (eqb slot 0) (ltb (occurs 0 slots) n) (ne_eqb slot 0 ne)))

-- and so does every slot below enough empty ones
pub filled_enough : (held n slot : ℕ) (slots : List ℕ) → n ≤ occurs 0 slots → filled held n (slot ∷ slots) ≡ slot ∷ filled held n slots
unfolding filled
filled_enough held n slot slots h =
    ap (λ x. x ∷ filled held n slots) (cond-false (eqb slot 0 && ltb (occurs 0 slots) n) held slot (and_right (eqb slot 0) (ltb (occurs 0 slots) n) (le-ltb (occurs 0 slots) n h)))

pub length_filled : (held n : ℕ) (slots : List ℕ) → length (filled held n slots) ≡ length slots
unfolding filled
length_filled held n [] = refl
length_filled held n (slot ∷ slots) = omega (arith, length_filled held n slots)

-- each slot is as it was or holds the number
pub filled_small : (held n most : ℕ) (slots : List ℕ) → held ≤ most → ((k : ℕ) → get_or slots k 0 ≤ most) → (k : ℕ) → get_or (filled held n slots) k 0 ≤ most
unfolding filled
filled_small held n most [] small h k = h k
filled_small held n most (slot ∷ slots) small h zero =
    cond_both (eqb slot 0 && ltb (occurs 0 slots) n) held slot (λ x. x ≤ most) (λ _. small) (λ _. h 0)
filled_small held n most (slot ∷ slots) small h (suc k) =
    filled_small held n most slots small (λ j. h (suc j)) k

-- as many empty slots less as are filled
pub occurs_filled_empty : (held n : ℕ) (slots : List ℕ) → (held ≡ 0 → ⊥) → occurs 0 (filled held n slots) ≡ occurs 0 slots - n
occurs_filled_empty held n [] ne = omega (arith, ap (occurs 0) (filled_none held n), occurs_none 0)
occurs_filled_empty held n (slot ∷ slots) ne =
    let rest = occurs_filled_empty held n slots ne in
    let before = occurs_cons 0 slot slots in
    ⊎_elim
    (λ (e : slot ≡ 0).
    ⊎_elim
    (λ (h : occurs 0 slots < n). omega (arith, rest, before, one_same slot 0 e, one_other held 0 ne, ap (occurs 0) (filled_here held n slot slots e h), occurs_cons 0 held (filled held n slots)))
    (λ h. omega (arith, rest, before, one_same slot 0 e, ap (occurs 0) (filled_enough held n slot slots h), occurs_cons 0 slot (filled held n slots)))
    (cases_lt (occurs 0 slots) n))
    (λ block. omega (arith, rest, before, one_other slot 0 block, ap (occurs 0) (filled_block held n slot slots block), occurs_cons 0 slot (filled held n slots)))
    (cases_eq slot 0)

-- as many slots more hold the number as are filled
pub occurs_filled_held : (held n : ℕ) (slots : List ℕ) → (held ≡ 0 → ⊥) → occurs held (filled held n slots) ≡ occurs held slots + min n (occurs 0 slots)
occurs_filled_held held n [] ne = omega (arith, ap (occurs held) (filled_none held n), occurs_none held, occurs_none 0)
occurs_filled_held held n (slot ∷ slots) ne =
    let rest = occurs_filled_held held n slots ne in
    let before = occurs_cons held slot slots in
    let empty = occurs_cons 0 slot slots in
    ⊎_elim
    (λ (e : slot ≡ 0).
    ⊎_elim
    (λ (h : occurs 0 slots < n). omega (arith, rest, before, empty, one_same slot 0 e, one_same held held refl, one_other slot held (λ z. ne (sym z ∙ e)), ap (occurs held) (filled_here held n slot slots e h), occurs_cons held held (filled held n slots)))
    (λ h. omega (arith, rest, before, empty, one_same slot 0 e, ap (occurs held) (filled_enough held n slot slots h), occurs_cons held slot (filled held n slots)))
    (cases_lt (occurs 0 slots) n))
    (λ block. omega (arith, rest, before, empty, one_other slot 0 block, ap (occurs held) (filled_block held n slot slots block), occurs_cons held slot (filled held n slots)))
    (cases_eq slot 0)

-- every other number is in as many slots as before
pub occurs_filled_other : (held n other : ℕ) (slots : List ℕ) → (other ≡ 0 → ⊥) → (held ≡ other → ⊥) → occurs other (filled held n slots) ≡ occurs other slots
occurs_filled_other held n other [] some ne = ap (occurs other) (filled_none held n)
occurs_filled_other held n other (slot ∷ slots) some ne =
    let rest = occurs_filled_other held n other slots some ne in
    let before = occurs_cons other slot slots in
    ⊎_elim
    (λ (e : slot ≡ 0).
    ⊎_elim
    (λ (h : occurs 0 slots < n). omega (arith, rest, before, one_other held other ne, one_other slot other (λ z. some (sym z ∙ e)), ap (occurs other) (filled_here held n slot slots e h), occurs_cons other held (filled held n slots)))
    (λ h. omega (arith, rest, before, ap (occurs other) (filled_enough held n slot slots h), occurs_cons other slot (filled held n slots)))
    (cases_lt (occurs 0 slots) n))
    (λ block. omega (arith, rest, before, ap (occurs other) (filled_block held n slot slots block), occurs_cons other slot (filled held n slots)))
    (cases_eq slot 0)

occurs_append : (held : ℕ) (front slots : List ℕ) → occurs held slots ≤ occurs held (front ++ slots)
unfolding occurs
occurs_append held [] slots = omega arith
occurs_append held (slot ∷ front) slots = omega (arith, occurs_append held front slots)

-- where enough slots above are empty, those below stay
pub filled_front : (held n : ℕ) (front slots : List ℕ) → n ≤ occurs 0 slots → filled held n (front ++ slots) ≡ front ++ filled held n slots
filled_front held n [] slots h = refl
filled_front held n (slot ∷ front) slots h =
    filled_enough held n slot (front ++ slots) (omega (arith, h, occurs_append 0 front slots)) ∙ ap (λ xs. slot ∷ xs) (filled_front held n front slots h)

-- what the definition says of one slot after another
highest_filled_blocks : (held n : ℕ) (slots : List ℕ) (k : ℕ) → (get_or slots k 0 ≡ 0 → ⊥) → get_or (filled held n slots) k 0 ≡ get_or slots k 0
unfolding filled
highest_filled_blocks held n [] k block = absurd (block refl)
highest_filled_blocks held n (slot ∷ slots) zero block =
    ap (λ xs. get_or xs 0 0) (filled_block held n slot slots block)
highest_filled_blocks held n (slot ∷ slots) (suc k) block = highest_filled_blocks held n slots k block

highest_filled_empty : (held n : ℕ) (slots : List ℕ) (k : ℕ) → get_or slots k 0 ≡ 0 → (get_or (filled held n slots) k 0 ≡ 0) ⊎ (get_or (filled held n slots) k 0 ≡ held)
unfolding filled
highest_filled_empty held n [] k e = inl (ap (λ xs. get_or xs k 0) (filled_none held n))
highest_filled_empty held n (slot ∷ slots) zero e =
    ⊎_elim
    (λ (h : occurs 0 slots < n). inr (ap (λ xs. get_or xs 0 0) (filled_here held n slot slots e h)))
    (λ h. inl (ap (λ xs. get_or xs 0 0) (filled_enough held n slot slots h) ∙ e))
    (cases_lt (occurs 0 slots) n)
highest_filled_empty held n (slot ∷ slots) (suc k) e = highest_filled_empty held n slots k e

-- a slot that is still empty has enough empty ones at or above it
still_empty : (held n : ℕ) (slots : List ℕ) (k : ℕ) → (held ≡ 0 → ⊥) → k < length slots → get_or (filled held n slots) k 0 ≡ 0 → n ≤ occurs 0 slots
still_empty held n slots k some h e =
    omega (arith, occurs_filled_empty held n slots some, holds_occurs 0 (filled held n slots) k (omega (arith, length_filled held n slots)) e)

highest_filled_top : (held n : ℕ) (slots : List ℕ) (j k : ℕ) → (held ≡ 0 → ⊥) → j < k → k < length slots → get_or (filled held n slots) k 0 ≡ 0 → get_or (filled held n slots) j 0 ≡ get_or slots j 0
unfolding filled
highest_filled_top held n [] j k some l h e = omega arith
highest_filled_top held n (slot ∷ slots) j zero some l h e = omega arith
highest_filled_top held n (slot ∷ slots) zero (suc k) some l h e =
    ap (λ xs. get_or xs 0 0) (filled_enough held n slot slots (still_empty held n slots k some (omega arith) e))
highest_filled_top held n (slot ∷ slots) (suc j) (suc k) some l h e =
    highest_filled_top held n slots j k some (omega arith) (omega arith) e

pub highest_filled : (held n : ℕ) (slots : List ℕ) → (held ≡ 0 → ⊥) → HighestFilled held slots (filled held n slots)
highest_filled held n slots some =
    record {
      blocks_kept = highest_filled_blocks held n slots;
      empty_or_held = highest_filled_empty held n slots;
      from_the_top = λ j k l h e. highest_filled_top held n slots j k some l h e;
    }
