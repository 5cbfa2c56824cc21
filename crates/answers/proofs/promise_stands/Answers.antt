use Rattle.answers.proofs.Promised.{promise}
use Rattle.answers.proofs.promise_stands.Goals as goal

pub returns : goal.returns
returns c = record { promise = promise }
