-- The turns of a loop that fills slots from the highest down: those from i on are done.
use Rattle.std.proofs.Common.{◌≡◌, ℕ, ◌+◌, ◌<◌, ◌≤◌, List, [], ◌∷◌, ◌++◌, length, get_or, take, drop, set, sym, ap, ◌∙◌, append_assoc, arith}
use Rattle.std.proofs.lemmas.List.{take_more, drop_more, drop_all, take_all, append-nil, take-append-drop, length-take-le, get_or_at, set_at}
use Rattle.slot_board.specs.Slots.{occurs, filled}
use Rattle.slot_board.proofs.Filled.{filled_none, filled_here, filled_block, filled_front}

-- the slots when those from i on are done
abbrev pub done_from : ℕ → ℕ → ℕ → List ℕ → List ℕ
done_from held n i slots = take i slots ++ filled held n (drop i slots)

pub done_none : (held n : ℕ) (slots : List ℕ) → slots ≡ done_from held n (length slots) slots
done_none held n slots =
    sym (ap (λ xs. take (length slots) slots ++ xs) (ap (filled held n) (drop_all (length slots) slots (omega arith)) ∙ filled_none held n) ∙ append-nil (take (length slots) slots) ∙ take_all (length slots) slots (omega arith))

-- the next slot to do stands between what is below it and what is done
next : (held n j : ℕ) (slots : List ℕ) → j < length slots → done_from held n (j + 1) slots ≡ take j slots ++ get_or slots j 0 ∷ filled held n (drop (j + 1) slots)
next held n j slots h =
    ap (λ xs. xs ++ filled held n (drop (j + 1) slots)) (take_more slots j 0 h) ∙ append_assoc (take j slots) (get_or slots j 0 ∷ []) (filled held n (drop (j + 1) slots))

pub next_slot : (held n j : ℕ) (slots : List ℕ) → j < length slots → get_or (done_from held n (j + 1) slots) j 0 ≡ get_or slots j 0
next_slot held n j slots h =
    ap (λ xs. get_or xs j 0) (next held n j slots h) ∙ get_or_at (take j slots) (get_or slots j 0) (filled held n (drop (j + 1) slots)) 0 j (length-take-le j slots (omega arith))

pub turn_fills : (held n j : ℕ) (slots : List ℕ) → j < length slots → get_or slots j 0 ≡ 0 → occurs 0 (drop (j + 1) slots) < n → set (done_from held n (j + 1) slots) j held ≡ done_from held n j slots
turn_fills held n j slots h e few =
    ap (λ xs. set xs j held) (next held n j slots h)
    ∙ set_at (take j slots) (get_or slots j 0) (filled held n (drop (j + 1) slots)) held j (length-take-le j slots (omega arith))
    ∙ ap (λ xs. take j slots ++ xs) (sym (ap (filled held n) (drop_more slots j 0 h) ∙ filled_here held n (get_or slots j 0) (drop (j + 1) slots) e few))

pub turn_keeps : (held n j : ℕ) (slots : List ℕ) → j < length slots → (get_or slots j 0 ≡ 0 → ⊥) → done_from held n (j + 1) slots ≡ done_from held n j slots
turn_keeps held n j slots h block =
    next held n j slots h
    ∙ ap (λ xs. take j slots ++ xs) (sym (ap (filled held n) (drop_more slots j 0 h) ∙ filled_block held n (get_or slots j 0) (drop (j + 1) slots) block))

-- with n filled, all is done
pub done_enough : (held n i : ℕ) (slots : List ℕ) → n ≤ occurs 0 (drop i slots) → done_from held n i slots ≡ filled held n slots
done_enough held n i slots h =
    sym (filled_front held n (take i slots) (drop i slots) h) ∙ ap (filled held n) (take-append-drop i slots)
