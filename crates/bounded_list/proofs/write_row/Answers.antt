use Rattle.std.proofs.Common.{◌<◌, List, [], ◌∷◌, ◌++◌, length, take, sym, ap, ◌∙◌, subst, arith, length-take}
use Rattle.std.proofs.lemmas.List.{take_more}
use Rattle.bounded_list.proofs.Written.{Written, written_more}
use Rattle.bounded_list.proofs.write_row.Goals as goal

pub loop-x-preserved : goal.loop-x-preserved
loop-x-preserved g c =
    let list = c.loop-x.list in
    let after = c.add.new.self in
    let i = c.loop-x.x-index in
    let row = c.args.row.now in
    let lent = c.new-list.result.memory.now in
    let x = c.x-item.result in
    let inside : i < length row = c.loop-x-test.true in
    let room : length (take i row) < length lent = omega (arith, length-take i row, c.if-memory-row.false, ap length c.new-list.ensures.memory) in
    let more = written_more x lent (take i row) list.memory.now list.len c.add.result after.memory.now after.len c.loop-x.invariant.1 room c.add.ensures.adds in
    let P : List g.row.T.Denot → Type 0 = λ items. Written lent items after.memory.now after.len in (
      c.add.ensures.lender ∙ c.loop-x.invariant.0,
      subst P (ap (λ z. take i row ++ (z ∷ [])) c.x-item.is ∙ sym (take_more row i x inside)) more,
    )
