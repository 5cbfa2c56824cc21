use Rattle.std.proofs.Common.{ap, ◌∙◌, length}
use Rattle.answers.specs.States.{state_of, target_of}
use Rattle.answers.specs.Findings.{survey_answer, findings_memory}
use Rattle.sittings.proofs.sitting.Sitting.survey.Goals as goal

pub returns-clause-answer : goal.returns-clause-answer
returns-clause-answer g c =
    let a = c.args.self.now in
    let s = state_of (g.B.Board.counts a.board) (g.B.Board.spare a.board) a.done in
    let T = target_of c.args.target.numbers.now c.args.target.kind in
    c.list_findings.ensures.answer ∙ ap (λ N. survey_answer N s c.args.tally.now T (length c.args.findings.now)) c.read.ensures

pub returns-clause-memory : goal.returns-clause-memory
returns-clause-memory g c =
    let a = c.args.self.now in
    let s = state_of (g.B.Board.counts a.board) (g.B.Board.spare a.board) a.done in
    let T = target_of c.args.target.numbers.now c.args.target.kind in
    c.list_findings.ensures.memory ∙ ap (λ N. findings_memory N s c.args.tally.now T c.args.findings.now) c.read.ensures
