use Rattle.theory.proofs.SafeFound.{firing_keeps_final_numbers, safe_by_its_input, closed_set_is_reached}
use Rattle.theory.proofs.how_a_safe_step_is_found.Goals as goal

pub returns : goal.returns
returns c =
    record {
      finals = firing_keeps_final_numbers;
      by_its_input = safe_by_its_input;
      closed_set = closed_set_is_reached;
    }
