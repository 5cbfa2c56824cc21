use Rattle.std.proofs.Common.{◌≡◌, ℕ, ◌+◌, ◌<◌, ◌≤◌, ◌^◌, ◌%◌, List, [], ◌∷◌, length, ⊎_elim, rules, arith}
use Rattle.std.proofs.Math.Nat.{mod-eq_of_lt}
use Rattle.std.proofs.lemmas.Bool.{cases_eq}
use Rattle.std.specs.List.{fold}
use Rattle.theory.specs.Firing.{one_at}
use Rattle.theory.proofs.TallySums.{one_same, one_other}
use Rattle.slot_board.specs.Slots.{occurs}
use Rattle.slot_board.proofs.Occurring.{occurs_none, occurs_cons}
use Rattle.slot_board.proofs.count_of.Goals as goal

-- a sum of 16 bits that also counts a slot
abbrev with_slot : ℕ → ℕ → ℕ → ℕ
with_slot held number slot = (number + one_at slot held) % 2 ^ 16

one_at_most : (slot held : ℕ) → one_at slot held ≤ 1
one_at_most slot held =
    ⊎_elim (λ (e : slot ≡ held). omega (arith, one_same slot held e)) (λ ne. omega (arith, one_other slot held ne)) (cases_eq slot held)

-- as many slots are counted as hold the number, where 16 bits keep them
counted : (held : ℕ) (slots : List ℕ) (number : ℕ) → number + length slots < 2 ^ 16 → fold (with_slot held) number slots ≡ number + occurs held slots
counted held [] number h = omega (arith, occurs_none held)
counted held (slot ∷ slots) number h =
    let e : with_slot held number slot ≡ number + one_at slot held = mod-eq_of_lt (omega (arith, one_at_most slot held, h)) in
    let rest = counted held slots (with_slot held number slot) (omega (arith, e, one_at_most slot held, h)) in
    omega (arith, rest, e, occurs_cons held slot slots)

pub returns : goal.returns
returns c =
    let e : c.fold-number.result ≡ fold (with_slot c.args.held) 0 c.args.slots.now = search rules in
    omega (arith, c.from.ensures, e, counted c.args.held c.args.slots.now 0 (omega arith))
