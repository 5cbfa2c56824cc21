-- What an emptied and a filled slot make of the counts and of spare.
use Rattle.std.proofs.Common.{◌≡◌, ℕ, ◌+◌, ◌<◌, ◌≤◌, List, length, get_or, set, sym, refl, ap, ◌∙◌, subst, ⊎_elim, arith}
use Rattle.std.proofs.lemmas.List.{length-set, get_or-set_same, get_or-set_other}
use Rattle.std.proofs.lemmas.Bool.{cases_eq}
use Rattle.boards.specs.Boards.{Taken, Put}
use Rattle.boards.proofs.AtPlace.{at_same, at_other}
use Rattle.slot_board.specs.Slots.{occurs, lowest_with, filled, counts_of}
use Rattle.slot_board.specs.Loads.{SlotsFit}
use Rattle.slot_board.specs.Passes.{FirstAt, HighestFilled, TakenSlot, PutSlots}
use Rattle.theory.specs.Firing.{one_at}
use Rattle.theory.proofs.TallySums.{one_same, one_other}
use Rattle.slot_board.proofs.Occurring.{occurs_set}
use Rattle.slot_board.proofs.LowestSlot.{first_is_lowest, holds_occurs, lowest_inside, lowest_holds}
use Rattle.slot_board.proofs.Filled.{highest_filled, length_filled, filled_small, occurs_filled_empty, occurs_filled_held, occurs_filled_other}

emptied_occurs : (place held : ℕ) (slots : List ℕ) → 0 < counts_of slots place → occurs held (set slots (lowest_with (place + 1) slots) 0) + one_at (place + 1) held ≡ occurs held slots + one_at 0 held
emptied_occurs place held slots some =
    omega (arith, occurs_set held slots (lowest_with (place + 1) slots) 0 (lowest_inside (place + 1) slots some), ap (λ slot. one_at slot held) (lowest_holds (place + 1) slots some))

emptied_meaning : (place : ℕ) (slots : List ℕ) → place ≤ 63 → 0 < counts_of slots place → let slots' = set slots (lowest_with (place + 1) slots) 0 in Taken place (counts_of slots) (occurs 0 slots) (counts_of slots') (occurs 0 slots')
emptied_meaning place slots low some =
    record {
      inside = low;
      filled = some;
      lowered =
          λ p.
          let change = emptied_occurs place (p + 1) slots some in
          let empty = one_other 0 (p + 1) (λ z. omega arith) in
          ⊎_elim
          (λ (e : place ≡ p). omega (arith, change, empty, one_same (place + 1) (p + 1) (omega arith), at_same place p 1 e))
          (λ ne. omega (arith, change, empty, one_other (place + 1) (p + 1) (λ z. ne (omega arith)), at_other place p 1 ne))
          (cases_eq place p);
      raised = omega (arith, emptied_occurs place 0 slots some, one_same 0 0 refl, one_other (place + 1) 0 (λ z. omega arith));
    }

pub taken_slot : (place i : ℕ) (slots : List ℕ) → place ≤ 63 → FirstAt (place + 1) slots i → TakenSlot place slots (set slots i 0)
taken_slot place i slots low first =
    let some = holds_occurs (place + 1) slots i first.inside first.holds in
    let at-lowest = first_is_lowest (place + 1) slots i first in
    let same : set slots i 0 ≡ set slots (lowest_with (place + 1) slots) 0 = ap (λ j. set slots j 0) at-lowest in
    record {
      emptied = same;
      lowest = subst (FirstAt (place + 1) slots) at-lowest first;
      meaning = subst (λ s. Taken place (counts_of slots) (occurs 0 slots) (counts_of s) (occurs 0 s)) (sym same) (emptied_meaning place slots low some);
    }

pub emptied_fit : (slots : List ℕ) (i : ℕ) → i < length slots → SlotsFit slots → SlotsFit (set slots i 0)
emptied_fit slots i h fit =
    record {
      long = length-set slots i 0 ∙ fit.long;
      small =
          λ k.
          ⊎_elim
          (λ (e : k ≡ i). omega (arith, ap (λ j. get_or (set slots i 0) j 0) e, get_or-set_same slots i 0 0 h))
          (λ ne. omega (arith, get_or-set_other slots i k 0 0 ne, fit.small k))
          (cases_eq k i);
    }

filled_meaning : (place n : ℕ) (slots : List ℕ) → place ≤ 63 → n ≤ occurs 0 slots → Put place n (counts_of slots) (occurs 0 slots) (counts_of (filled (place + 1) n slots)) (occurs 0 (filled (place + 1) n slots))
filled_meaning place n slots low enough =
    let some : place + 1 ≡ 0 → ⊥ = λ z. omega arith in
    record {
      inside = low;
      enough = enough;
      raised =
          λ p.
          ⊎_elim
          (λ (e : place ≡ p). omega (arith, occurs_filled_held (place + 1) n slots some, ap (λ q. occurs (q + 1) slots) e, ap (λ q. occurs (q + 1) (filled (place + 1) n slots)) e, at_same place p n e))
          (λ ne. omega (arith, occurs_filled_other (place + 1) n (p + 1) slots (λ z. omega arith) (λ z. ne (omega arith)), at_other place p n ne))
          (cases_eq place p);
      lowered = omega (arith, occurs_filled_empty (place + 1) n slots some);
    }

pub put_slots : (place n : ℕ) (slots slots' : List ℕ) → place ≤ 63 → n ≤ occurs 0 slots → slots' ≡ filled (place + 1) n slots → PutSlots place n slots slots'
put_slots place n slots slots' low enough same =
    record {
      filled_down = same;
      highest = subst (HighestFilled (place + 1) slots) (sym same) (highest_filled (place + 1) n slots (λ z. omega arith));
      meaning = subst (λ s. Put place n (counts_of slots) (occurs 0 slots) (counts_of s) (occurs 0 s)) (sym same) (filled_meaning place n slots low enough);
    }

pub filled_fit : (place n : ℕ) (slots slots' : List ℕ) → place ≤ 63 → SlotsFit slots → slots' ≡ filled (place + 1) n slots → SlotsFit slots'
filled_fit place n slots slots' low fit same =
    subst SlotsFit (sym same) (record { long = length_filled (place + 1) n slots ∙ fit.long; small = filled_small (place + 1) n 64 slots (omega arith) fit.small })
