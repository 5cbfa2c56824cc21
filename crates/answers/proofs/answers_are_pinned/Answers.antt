use Rattle.answers.proofs.Pinning.{pinned}
use Rattle.answers.proofs.answers_are_pinned.Goals as goal

pub returns : goal.returns
returns c = record { pinned = pinned }
