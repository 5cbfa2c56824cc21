use Rattle.std.proofs.Common.{◌≡◌, ℕ, ◌<◌, ◌≤◌, ◌↔◌, Bool, true, false, List, length, get_or, IsTrue, EachIndex, MatchBool, refl, ⊎_elim, arith, rules}
use Rattle.std.proofs.lemmas.List.{get_or_past}
use Rattle.std.proofs.lemmas.Bool.{cases_lt}
use Rattle.slot_board.specs.Loads.{SlotsFit}
use Rattle.slot_board.proofs.fit.Goals as goal

judged : (fits : Bool) (slots : List ℕ) → length slots ≡ 4096 → (IsTrue fits ↔ EachIndex slots (λ k. get_or slots k 0 ≤ 64)) → MatchBool fits (SlotsFit slots) (SlotsFit slots → ⊥)
judged true slots long h =
    record {
      long = long;
      small = λ k. ⊎_elim (λ (l : k < length slots). h.0 refl k l) (λ l. omega (arith, get_or_past slots k 0 l)) (cases_lt k (length slots));
    }
judged false slots long h = λ fit. let e : false ≡ true = h.1 (λ k l. fit.small k) in cc

pub returns : goal.returns
returns c =
    let slots = c.args.slots.now in
    let h : IsTrue c.all.result ↔ EachIndex slots (λ k. get_or slots k 0 ≤ 64) = search rules in
    judged c.all.result slots c.told-slots h
