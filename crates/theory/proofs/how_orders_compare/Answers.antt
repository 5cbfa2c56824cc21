use Rattle.theory.proofs.FirstOrder.{earlier_one_way, earlier_goes_on, earlier_compares}
use Rattle.theory.proofs.how_orders_compare.Goals as goal

pub returns : goal.returns
returns c = record { one_way = earlier_one_way; goes_on = earlier_goes_on; compares = earlier_compares }
