use Rattle.std.proofs.Common.{rules, ◌-◌, refl, arith}
use Rattle.std.proofs.lemmas.Iterator.{YieldsList-from_range}
use Rattle.std.proofs.lemmas.Iterator.Adapters.{items_from_extend}
use Rattle.words.proofs.renaming_of.Goals as goal

pub returns : goal.returns
returns c =
    let named = c.unwrap_or-named.result in
    let run = YieldsList-from_range named 64 (64 - named) refl refl in
    let added = items_from_extend c.extend.result c.extend.ensures.ran run in
    let items = (rw c.in_ok-extend.was at added).0 in
    search rules
