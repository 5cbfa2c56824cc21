use Rattle.std.proofs.Common.{List, ap, sym, ◌∙◌, ℕ}
use Rattle.nets.proofs.FilledTo.{zeros}
use Rattle.formats.proofs.Conditions.{outside_steps}
use Rattle.formats.specs.Tables.{cell}
use Rattle.theory.specs.Rows.{at}
use Rattle.nets.proofs.net_table.NetTableNet.read_yields.Goals as goal
use Rattle.nets.proofs.net_table.NetTableNet.read_yields.Goals.{then-step-self, else-step-self}

pub returns-clause-row : goal.returns-clause-row
returns-clause-row c p =
    let table = c.args.self.now in
    let t : ℕ = c.args.step in
    let read = λ (row : List ℕ). at row p in
    elim c.if-step-self.branch [
      | then-step-self w ↦
          ap read w.row-is ∙ ap (λ (k : ℕ). cell table.yields k p) w.from.ensures ∙ table.nothing_outside t p w.if-step-self.true
      | else-step-self w ↦
          ap read w.row-is ∙ zeros 64 p ∙ sym (outside_steps t p table.steps table.places (cell table.yields t p) w.if-step-self.false)
    ]
