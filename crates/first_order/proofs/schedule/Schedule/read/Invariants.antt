use Rattle.theory.specs.Rows.{at}
use Rattle.first_order.proofs.Reading.{ReadTo}
use Rattle.first_order.proofs.schedule.Schedule.read.Given as goal

abbrev pub invariant-loop-step : goal.invariant-loop-step
invariant-loop-step g l = ReadTo (g.N.Net.net l.net) (at l.counts) (at l.tally) l.step l.self
