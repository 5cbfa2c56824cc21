use Rattle.std.proofs.Common.{◌≡◌, ◌+◌, Err, set, refl, arith, rules}
use Rattle.std.proofs.lemmas.Result.{err_from_is_err_and}
use Rattle.refusals.specs.declared.Refusal.TheVariants.{PlaceEmpty}
use Rattle.slot_board.specs.Occurs.{occurs_absent}
use Rattle.slot_board.proofs.Occurring.{occurs_le_length}
use Rattle.slot_board.proofs.Moves.{taken_slot, emptied_fit}
use Rattle.slot_board.proofs.empty_lowest.Goals as goal

pub returns-in_err-i : goal.returns-in_err-i
returns-in_err-i c =
    let slots = c.args.slots.now in
    let said : c.from_residual.result ≡ Err (PlaceEmpty c.args.place) = search (rules, err_from_is_err_and) in
    let absent = rw c.in_err-i.ensures.ok_part at c.lowest.ensures in
    record {
      fit = c.requires.fit;
      few = omega (arith, occurs_le_length 0 slots, c.requires.fit.long);
      answer = rw said (occurs_absent (c.args.place + 1) slots absent, refl, refl);
    }

pub returns : goal.returns
returns c =
    let slots = c.args.slots.now in
    let i = c.in_ok-i.i in
    let first = rw c.in_ok-i.ensures.ok_part at c.lowest.ensures in
    let fit = emptied_fit slots i first.inside c.requires.fit in
    record {
      fit = fit;
      few = omega (arith, occurs_le_length 0 (set slots i 0), fit.long);
      answer = taken_slot c.args.place i slots c.requires.inside first;
    }
