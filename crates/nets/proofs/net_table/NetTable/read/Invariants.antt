use Rattle.std.proofs.Common.{◌≡◌, ℕ, ltb, []}
use Rattle.theory.specs.Rows.{at}
use Rattle.sets.specs.Flags.{has}
use Rattle.nets.proofs.Fronts.{Front}
use Rattle.nets.proofs.net_table.NetTable.read.Given as goal

abbrev pub invariant-loop-step : goal.invariant-loop-step
invariant-loop-step g l = record {
  none : l.self.steps ≡ 0;
  places : l.self.places ≡ (g.N.Net.net l.net).places;
  inputs : Front (λ t place. place ≡ (g.N.Net.net l.net).input t) 0 l.step l.self.inputs;
  rows : Front (λ t row. (p : ℕ) → at row p ≡ (g.N.Net.net l.net).yields t p) [] l.step l.self.yields;
  sets : Front (λ t w. (p : ℕ) → has w p ≡ ltb 0 ((g.N.Net.net l.net).yields t p)) 0 l.step l.self.yield_places;
}
