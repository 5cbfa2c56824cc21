use Rattle.std.proofs.Common.{◌≡◌, ℕ, length, not, None, ap, ◌∙◌}
use mathlib.Core.Path.{fun_ext}
use Rattle.refusals.specs.declared.Refusal.TheVariants.{BoardRowUnfit}
use Rattle.theory.specs.Rows.{at}
use Rattle.formats.specs.Checks.{fault}
use Rattle.formats.specs.Chained.{chained_refusal, chained_net}
use Rattle.answers.specs.States.{State, new_on, state_of, target_of}
use Rattle.answers.specs.Answers.{resume_answer, order_memory}
use Rattle.answers.proofs.Options.{or_none}
use Rattle.c_library.specs.NewSittings.{board_fits, sitting_refusal}
use Rattle.c_library.proofs.Sittings.{row_fits, resumed}
use Rattle.c_library.proofs.new_sitting.resume_new.Goals as goal

pub returns : goal.returns
returns c =
    let file = c.args.file.now in
    let counts = c.args.counts.now in
    let spare = c.args.spare in
    let tally = c.args.tally.now in
    let memory = c.args.order.now in
    let memory' = c.resume.new.order in
    let target = target_of c.args.target.numbers.now c.args.target.kind in
    let net = c.in_ok-net.ensures in
    let loaded = c.in_ok-load.ensures.answer in
    let z = c.new-sitting.result in
    let none : sitting_refusal file counts spare ≡ None =
    or_none (chained_refusal file) (fault (not (board_fits counts spare)) BoardRowUnfit) net.0 (row_fits counts spare loaded.long loaded.lawful) in
    let state : state_of (at z.board.counts) z.board.spare z.done ≡ new_on (at counts) spare =
    ap (λ b. state_of (at b.counts) b.spare z.done) c.new-sitting.ensures.board
    ∙ ap (λ (d : ℕ → ℕ). record { counts = at c.load.new.self.counts; spare = c.load.new.self.spare; done = d }) (fun_ext c.new-sitting.ensures.done)
    ∙ ap (λ m. new_on m c.load.new.self.spare) (fun_ext loaded.counts_given)
    ∙ ap (new_on (at counts)) loaded.spare_given in
    let same : chained_net z.net.file.now ≡ chained_net file = ap (λ n. chained_net n.file.now) c.new-sitting.ensures.net ∙ ap chained_net net.1 in
    resumed file counts spare tally target memory c.resume.result memory' none
    (c.resume.ensures.answer
    ∙ ap (λ N. resume_answer N (state_of (at z.board.counts) z.board.spare z.done) tally target (length memory)) same
    ∙ ap (λ (s : State). resume_answer (chained_net file) s tally target (length memory)) state)
    (c.resume.ensures.memory
    ∙ ap (λ N. order_memory N (state_of (at z.board.counts) z.board.spare z.done) tally target memory) same
    ∙ ap (λ (s : State). order_memory (chained_net file) s tally target memory) state)
