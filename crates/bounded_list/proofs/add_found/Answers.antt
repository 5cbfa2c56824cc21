use Rattle.std.proofs.Common.{◌≡◌, ◌+◌, ◌<◌, [], ◌∷◌, ◌++◌, length, take, Some, None, sym, refl, ap, ◌∙◌, arith, length-append, length-take}
use Rattle.std.proofs.lemmas.List.{append-nil}
use Rattle.theory.specs.Rows.{found_below}
use Rattle.bounded_list.proofs.Written.{written_more}
use Rattle.bounded_list.proofs.Founds.{found_few, front_more, written_at, extended}
use Rattle.bounded_list.proofs.add_found.Goals as goal
use Rattle.bounded_list.proofs.add_found.Goals.{in-Some, in_default}

pub loop-number-preserved : goal.loop-number-preserved
loop-number-preserved g c =
    let n = c.loop-number.number in
    let list = c.loop-number.list in
    let inv = c.loop-number.invariant in
    let start = c.args.list.now in
    let lent = start.memory.now in
    let front = take start.len lent in (
      elim c.match-find.branch [
        | in-Some w ↦ ap (λ l. l.memory.ghost_name) w.list-is ∙ (w.add.ensures.lender ∙ inv.0)
        | in_default w ↦ ap (λ l. l.memory.ghost_name) w.list-is ∙ inv.0
      ],
      λ at h.
          let so_far = front ++ found_below at n in
          elim c.match-find.branch [
            | in-Some w ↦
                (let x = w.in-Some.item in
                let room : length so_far < length lent = omega (arith, length-append front (found_below at n), length-take start.len lent, found_few at n, c.loop-number-test.true, c.room.ensures, c.if-room-from.false, c.from.ensures) in
                let more = written_more x lent so_far list.memory.now list.len w.add.result w.add.new.self.memory.now w.add.new.self.len (inv.1 at h) room w.add.ensures.adds in
                written_at lent (so_far ++ (x ∷ [])) (front ++ found_below at (n + 1)) c.match-find.list w.add.new.self w.list-is (front_more front at n (Some x) (h n _ c.loop-number-test.true w.in-Some.ensures)) more)
            | in_default w ↦
                written_at lent so_far (front ++ found_below at (n + 1)) c.match-find.list list w.list-is (sym (append-nil so_far) ∙ front_more front at n None (h n _ c.loop-number-test.true w.in_default.ensures)) (inv.1 at h)
          ],
    )

pub returns : goal.returns
returns g c =
    let start = c.args.list.now in
    let list = c.loop-number.list in
    let lent = start.memory.now in
    let all : c.loop-number.number ≡ c.args.end = omega arith in
    record {
      lender = c.loop-number.invariant.0;
      adds = λ at h.
          let w = written_at lent (take start.len lent ++ found_below at c.loop-number.number) (take start.len lent ++ found_below at c.args.end) list list refl (ap (λ z. take start.len lent ++ found_below at z) all) (c.loop-number.invariant.1 at h) in
          (omega (arith, c.room.ensures, c.if-room-from.false, c.from.ensures), extended (found_below at c.args.end) lent start.len list.memory.now list.len start.within w);
    }
