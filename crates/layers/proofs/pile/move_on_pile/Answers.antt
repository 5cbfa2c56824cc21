use Rattle.std.proofs.Common.{◌≡◌, ℕ, ◌<◌, get_or, ap, ◌∙◌, arith}
use Rattle.layers.specs.Renamings.{renamed}
use Rattle.layers.proofs.Names.{same_names}
use Rattle.layers.proofs.pile.move_on_pile.Goals as goal

pub returns : goal.returns
returns g c =
    let pile = c.new-pile.result in
    let low = pile.below.below in
    let from = c.args.from in
    let to = c.args.to in
    let counts = g.B.Board.counts c.args.below in
    let rows : low.row ≡ c.new-2.result.row = cc in
    let bottom : low.below.below ≡ c.args.below = cc in
    let lower = g.B.Board.counts low.below.below in
    let shown : (p : ℕ) → p < 64 → renamed pile.row (renamed low.row lower) p ≡ counts p =
    λ p h. same_names pile.row (renamed low.row lower) p c.new-pile.ensures.row h ∙ same_names low.row lower p (λ q l. ap (λ r. get_or r q 0) rows ∙ c.new-2.ensures.row q l) h ∙ ap (λ b. g.B.Board.counts b p) bottom in
    let can = c.in_ok-move_block.ensures.answer in
    let after = c.in_ok-move_block.ensures.counts to in
    record {
      answer = (
        record { from_inside = can.from_inside; to_inside = can.to_inside; filled = omega (arith, can.filled, shown from (omega (arith, can.from_inside))) },
        omega (arith, c.count.ensures.answer, after, shown to (omega (arith, can.to_inside))),
      );
    }
