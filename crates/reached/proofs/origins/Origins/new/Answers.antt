use Rattle.std.proofs.Common.{◌≡◌, ℕ, replicate, sym, subst}
use Rattle.theory.specs.Rows.{at}
use Rattle.nets.proofs.FilledTo.{zeros}
use Rattle.reached.proofs.origins.Origins.new.Goals as goal

pub returns : goal.returns
returns c p = subst (λ (w : ℕ). at (replicate 64 w) p ≡ 0) (sym c.empty.ensures.word) (zeros 64 p)
