use Rattle.theory.proofs.Decided.{safe_step_exists}
use Rattle.theory.proofs.FirstOrder.{least_safe_is_first, computed_is_least_safe, computed_is_first, first_is_one, first_order_goes_on, first_order_ends}
use Rattle.theory.proofs.which_order_is_the_first.Goals as goal

pub returns : goal.returns
returns c =
    record {
      step = safe_step_exists;
      first = least_safe_is_first;
      least = computed_is_least_safe;
      computed = computed_is_first;
      one = first_is_one;
      goes_on = first_order_goes_on;
      ends = first_order_ends;
    }
