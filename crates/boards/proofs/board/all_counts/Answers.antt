use Rattle.std.proofs.Common.{◌≡◌, ◌<◌, length, sym, ◌∙◌, ⊎_elim, arith, rules}
use Rattle.std.proofs.lemmas.List.{get_or_past}
use Rattle.std.proofs.lemmas.Bool.{cases_lt}
use Rattle.theory.proofs.Filled.{filled_at}
use Rattle.boards.proofs.board.all_counts.Goals as goal

pub returns : goal.returns
returns g c =
    let row = c.from_fn.result in
    let counts = g.B.Board.counts c.args.board.now in
    let long : length row ≡ 64 = search rules in
    record {
      answer = λ p.
          ⊎_elim
          (λ (h : p < 64). filled_at _ _ (λ x. counts x) (λ x r q e. search rules) c.from_fn.ensures.items p 0 h)
          (λ h. get_or_past row p 0 (omega arith) ∙ sym (g.met.B.Board.outside c.args.board.now p (omega arith)))
          (cases_lt p 64);
    }
