use Rattle.std.proofs.Common.{◌-◌, rules}
use Rattle.theory.proofs.Filled.{filled_at}
use Rattle.handover.proofs.piles.turned_round.Goals as goal

pub returns : goal.returns
returns c p h = filled_at _ _ (λ x. 63 - x) (λ x r q e. search rules) c.from_fn.ensures.items p 0 h
