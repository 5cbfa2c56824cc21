use Rattle.std.proofs.Common.{◌≡◌, ◌+◌, ◌-◌, ◌<◌, length, get_or, drop, set, sym, ap, ◌∙◌, arith}
use Rattle.slot_board.specs.Slots.{occurs}
use Rattle.theory.proofs.TallySums.{one_same, one_other}
use Rattle.slot_board.proofs.Occurring.{occurs_drop_more, occurs_drop_all}
use Rattle.slot_board.proofs.FillTurns.{done_from, done_none, next_slot, turn_fills, turn_keeps, done_enough}
use Rattle.slot_board.proofs.Moves.{put_slots, filled_fit}
use Rattle.slot_board.proofs.fill_highest.Goals as goal

pub loop-i-init : goal.loop-i-init
loop-i-init c =
    let slots = c.args.slots.now in
    (done_none (c.args.place + 1) c.args.n slots, omega (arith, occurs_drop_all 0 slots (length slots) (omega arith)))

pub returns-then-left-eq0 : goal.returns-then-left-eq0
returns-then-left-eq0 c =
    let slots = c.args.slots.now in
    let place = c.args.place in
    let n = c.args.n in
    let same = c.loop-i.invariant.0 ∙ done_enough (place + 1) n c.loop-i.i slots (omega (arith, c.loop-i.invariant.1)) in
    record {
      fit = filled_fit place n slots c.loop-i.slots c.requires.inside c.requires.fit same;
      moved = put_slots place n slots c.loop-i.slots c.requires.inside c.requires.enough same;
    }

pub loop-i-preserved-then-slots-i-eq-EMPTY : goal.loop-i-preserved-then-slots-i-eq-EMPTY
loop-i-preserved-then-slots-i-eq-EMPTY c =
    let slots = c.args.slots.now in
    let held = c.args.place + 1 in
    let n = c.args.n in
    let inv = c.loop-i.invariant in
    let j = c.loop-i.i - 1 in
    let e : c.loop-i.i ≡ j + 1 = omega arith in
    let inside : j < length slots = omega arith in
    let before = inv.0 ∙ ap (λ k. done_from held n k slots) e in
    let empty = sym (next_slot held n j slots inside) ∙ ap (λ s. get_or s j 0) (sym before) ∙ c.if-slots-i-eq-EMPTY.true in
    let above = ap (λ k. occurs 0 (drop k slots)) e in (
      ap (λ s. set s j held) before ∙ turn_fills held n j slots inside empty (omega (arith, inv.1, above, c.if-left-eq0.false)),
      omega (arith, inv.1, above, occurs_drop_more 0 slots j inside, one_same (get_or slots j 0) 0 empty),
    )

pub loop-i-preserved : goal.loop-i-preserved
loop-i-preserved c =
    let slots = c.args.slots.now in
    let held = c.args.place + 1 in
    let n = c.args.n in
    let inv = c.loop-i.invariant in
    let j = c.loop-i.i - 1 in
    let e : c.loop-i.i ≡ j + 1 = omega arith in
    let inside : j < length slots = omega arith in
    let before = inv.0 ∙ ap (λ k. done_from held n k slots) e in
    let block : get_or slots j 0 ≡ 0 → ⊥ = λ z. c.if-slots-i-eq-EMPTY.false (ap (λ s. get_or s j 0) before ∙ next_slot held n j slots inside ∙ z) in (
      before ∙ turn_keeps held n j slots inside block,
      omega (arith, inv.1, ap (λ k. occurs 0 (drop k slots)) e, occurs_drop_more 0 slots j inside, one_other (get_or slots j 0) 0 block),
    )

pub returns : goal.returns
returns c =
    let slots = c.args.slots.now in
    let place = c.args.place in
    let n = c.args.n in
    let none : c.loop-i.i ≡ 0 = omega arith in
    let same = c.loop-i.invariant.0 ∙ ap (λ k. done_from (place + 1) n k slots) none in
    record {
      fit = filled_fit place n slots c.loop-i.slots c.requires.inside c.requires.fit same;
      moved = put_slots place n slots c.loop-i.slots c.requires.inside c.requires.enough same;
    }
