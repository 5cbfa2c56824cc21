use Rattle.std.proofs.Common.{◌≡◌, ℕ, ◌&&◌, ltb, length}
use Rattle.theory.specs.Rows.{at}
use Rattle.theory.specs.Tests.{any_below}
use Rattle.reached.specs.Led.{has_at}
use Rattle.reached.specs.Leads.{takes}
use Rattle.reached.proofs.leads.leads_of.Given as goal

abbrev pub invariant-loop-step : goal.invariant-loop-step
invariant-loop-step g l =
    let M = (g.N.Net.net l.net) in
    ((q p : ℕ) → has_at l.leads q p ≡ any_below (λ t. takes M (at l.tally) q t && ltb 0 (M.yields t p)) l.step) × (length l.leads ≡ 64)
