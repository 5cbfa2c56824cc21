use Rattle.std.proofs.Common.{refl}
use Rattle.std.specs.Fmt.{digits}
use Rattle.theory.specs.Sums.{sum_to}
use Rattle.sheets.proofs.worked_sheets.Goals as goal

pub returns : goal.returns
unfolding sum_to digits
returns c = record { hold = refl }
