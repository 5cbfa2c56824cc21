use Rattle.theory.proofs.Exchanging.{agreeing_exchanged}
use Rattle.theory.proofs.only_the_net_counts.Goals as goal

pub returns : goal.returns
returns c = record { exchanged = agreeing_exchanged }
