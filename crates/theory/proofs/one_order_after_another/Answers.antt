use Rattle.theory.proofs.Appended.{can_fire_appended, after_appended, times_appended, realizes_appended, final_numbers_appended, front_is_first, rest_is_first}
use Rattle.theory.proofs.one_order_after_another.Goals as goal

pub returns : goal.returns
returns c =
    record {
      can_fire = can_fire_appended;
      after = after_appended;
      counts = times_appended;
      realizes = realizes_appended;
      finals = final_numbers_appended;
      front = front_is_first;
      rest = rest_is_first;
    }
