use Rattle.std.proofs.Common.{◌<◌, ◌≤◌, ◌+◌, ⊎_elim, rules, arith}
use Rattle.std.proofs.lemmas.List.{get_or_past}
use Rattle.std.proofs.lemmas.Bool.{cases_lt}
use Rattle.theory.specs.Rows.{at}
use Rattle.theory.proofs.Filled.{filled_at}
use Rattle.sittings.proofs.done_rows.with_tally.Goals as goal

pub returns : goal.returns
returns c t =
    let done = c.args.done.now in
    let tally = c.args.tally.now in
    ⊎_elim
    (λ (h : t < 128). filled_at _ _ (λ u. at done u + at tally u) (λ x r q e. search rules) c.from_fn.ensures.items t 0 h)
    (λ (h : 128 ≤ t). omega (arith, get_or_past done t 0 (omega (arith, c.told-done)), get_or_past tally t 0 (omega (arith, c.requires.inside)), get_or_past c.from_fn.result t 0 (omega (arith, c.from_fn.ensures.items.long))))
    (cases_lt t 128)
