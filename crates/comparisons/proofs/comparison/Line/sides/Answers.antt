use Rattle.std.proofs.Common.{List, ℕ, Bor, refl, sym, subst}
use Rattle.comparisons.specs.Sides.{HasSides}
use Rattle.comparisons.proofs.Sides.{sides}
use Rattle.comparisons.proofs.comparison.Line.sides.Goals as goal

pub returns : goal.returns
returns c =
    subst (λ (x : Bor (List ℕ) × Bor (List ℕ)). HasSides c.args.self.text.now x.0.now x.1.now) (sym c.unwrap_or.ensures) (sides c.args.self.text.now c.split_once.result _ c.split_once.ensures.cases refl refl)
