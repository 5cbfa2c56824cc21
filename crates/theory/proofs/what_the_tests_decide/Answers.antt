use Rattle.theory.proofs.ReachRounds.{reached_decided}
use Rattle.theory.proofs.Decided.{short_decided, subnet_decided, cut_off_decided, done_decided, safe_decided, least_found, none_found}
use Rattle.theory.proofs.what_the_tests_decide.Goals as goal

pub returns : goal.returns
returns c =
    record {
      short = short_decided;
      subnet = subnet_decided;
      reached = reached_decided;
      cut_off = cut_off_decided;
      done = done_decided;
      safe = safe_decided;
      least = least_found;
      none = none_found;
    }
