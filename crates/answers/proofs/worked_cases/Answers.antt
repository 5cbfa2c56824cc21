use Rattle.std.proofs.Common.{refl}
use Rattle.theory.specs.Sums.{sum_to}
use Rattle.answers.proofs.worked_cases.Goals as goal

pub returns : goal.returns
unfolding sum_to
returns c = record { hold = refl }
