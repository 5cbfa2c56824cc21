use Rattle.std.proofs.Common.{sym, ltb}
use Rattle.std.proofs.lemmas.Bool.{or_parts}
use Rattle.theory.specs.Rows.{at}
use Rattle.reached.specs.Led.{has_at}
use Rattle.first_order.proofs.Chosen.{takes_there, safe_keeps, safe_last, safe_back}
use Rattle.first_order.proofs.schedule.Schedule.is_safe.Goals as goal
use Rattle.first_order.proofs.schedule.Schedule.is_safe.Goals.{then-keeps_input-via-then-keeps_input, then-keeps_input-via-else-keeps_input+then-takes_last}

pub returns-then-keeps_input-clause-answer : goal.returns-then-keeps_input-clause-answer
returns-then-keeps_input-clause-answer c = record {
  told = λ N m x law h none l.
      elim c.then-keeps_input.branch [
        | then-keeps_input-via-then-keeps_input w ↦
            sym (safe_keeps N law m x c.args.self.now h c.args.step l c.requires.ready none (sym w.if-keeps_input.ensures))
        | then-keeps_input-via-else-keeps_input+then-takes_last w ↦
            sym (safe_last N law m x c.args.self.now h c.args.step l c.requires.ready none (w.if-takes_last.ensures (takes_there N law m x c.args.self.now h c.args.step l c.requires.ready)))
      ];
}

pub returns-clause-answer : goal.returns-clause-answer
returns-clause-answer c = record {
  told = λ N m x law h none l.
      safe_back N law m x c.args.self.now h c.args.step l c.requires.ready none
      (sym c.if-keeps_input.ensures) (c.if-takes_last.ensures (takes_there N law m x c.args.self.now h c.args.step l c.requires.ready)) c.comes_back.result c.comes_back.ensures.answer;
}

pub comes_back-requires-clause-none : goal.comes_back-requires-clause-none
comes_back-requires-clause-none c =
    (or_parts (ltb 1 (at c.args.self.now.counts (at c.args.self.now.inputs c.args.step))) (has_at c.args.self.now.yields c.args.step (at c.args.self.now.inputs c.args.step))
    (sym c.if-keeps_input.ensures)).1
