use Rattle.std.proofs.Common.{refl}
use Rattle.nets.proofs.worked_files.Goals as goal

pub returns : goal.returns
returns c = record { hold = refl }
