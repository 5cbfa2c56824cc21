-- What the steps of a tally lead to at once.
use Rattle.std.specs.Prelude.{ℕ, Bool, ◌&&◌, ◌==◌, nat_lt}
use Rattle.theory.specs.Nets.{NetMeaning}
use Rattle.theory.specs.Tallies.{Tally}
use Rattle.theory.specs.Tests.{any_below}

-- the step t is asked for by the tally and takes at p
abbrev pub takes : NetMeaning → Tally → ℕ → ℕ → Bool
takes N x p t = nat_lt 0 (x t) && N.input t == p

-- a step of the tally takes at q and yields at p
abbrev pub leads_to : NetMeaning → Tally → ℕ → ℕ → Bool
leads_to N x q p = any_below (λ t. takes N x q t && nat_lt 0 (N.yields t p)) N.steps
