use Rattle.std.proofs.Common.{rules, ◌≡◌}
use Rattle.std.proofs.lemmas.Iterator.Adapters.{items_from_extend, YieldsList-from_repeat_n}
use Rattle.words.proofs.Runs.{one_run_more}
use Rattle.words.proofs.slots_of.Goals as goal

pub loop-left-preserved : goal.loop-left-preserved
loop-left-preserved c =
    let run = YieldsList-from_repeat_n (λ x y. y ≡ x) _ _ c.repeat_n.ensures.count c.repeat_n.ensures.item (λ y e. e) in
    let added = items_from_extend c.extend.result c.extend.ensures.ran run in
    one_run_more _ _ c.loop-left.left.now _ _ _ (rw c.in_ok-extend.was at added).0 (search rules) (search rules) c.in-len2-up.len_at_least c.loop-left.invariant
