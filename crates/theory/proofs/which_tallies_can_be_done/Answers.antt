use Rattle.theory.proofs.Decided.{done_exactly_if}
use Rattle.theory.proofs.Appended.{ends_at_final_numbers, short_below_zero}
use Rattle.theory.proofs.which_tallies_can_be_done.Goals as goal

pub returns : goal.returns
returns c = record { exactly = done_exactly_if; ends = ends_at_final_numbers; short = short_below_zero }
