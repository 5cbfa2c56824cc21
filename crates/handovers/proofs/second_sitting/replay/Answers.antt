use Rattle.theory.specs.Nets.{LawfulNet}
use Rattle.std.proofs.Common.{◌≡◌, ℕ, List, [], length, take, ap, ◌∙◌, subst, arith, rules}
use Rattle.theory.specs.Rows.{at, row_of}
use Rattle.answers.specs.States.{State, Target, new_on, state_of, target_of}
use Rattle.answers.specs.Calls.{Call}
use Rattle.answers.specs.Calls.Call.{resume}
use Rattle.tallies.proofs.FittingRows.{front_row}
use Rattle.handovers.specs.Made.{Made}
use Rattle.handovers.proofs.Replaying.{new_held, same_call}
use Rattle.handovers.proofs.second_sitting.replay.Goals as goal

pub returns-clause-made : goal.returns-clause-made
returns-clause-made g c =
    let H = g.C.Board.counts in
    let R = g.C.Board.spare in
    let b = c.args.board in
    let N : LawfulNet = record { net = g.N.Net.net c.args.net; law = g.met.N.Net.lawful c.args.net } in
    let z = c.new-sitting.result in
    let y = c.make-answer.new.sitting in
    let s' = state_of (H y.board) (R y.board) y.done in
    let done = c.args.done.now in
    let marking = c.args.marking.now in
    let order = c.args.order.now in
    let order' = c.make-answer.new.order in
    let none = c.make-answer.new.findings in
    let answer = c.make-answer.result in
    let tally = take c.from.result done in
    let numbers = take c.from-2.result marking in
    let kind = c.into.result in
    let make : List ℕ → Target → Call = λ tally target. resume tally target (length order) in
    let call = resume tally (target_of numbers kind) (length order) in
    let M : g.row.N.Denot → Type 0 = λ n. Made (g.N.Net.net n) (state_of (H z.board) (R z.board) z.done) call order [] answer s' order' none in
    let S : State → Type 0 = λ s. Made N.net s call order [] answer s' order' none in
    let new : state_of (H z.board) (R z.board) z.done ≡ new_on (H b) (R b) =
    ap (λ w. state_of (H w) (R w) z.done) c.new-sitting.ensures.board ∙ new_held (H b) (R b) z.done c.new-sitting.ensures.done in
    let made = subst S new (subst M c.new-sitting.ensures.net c.make-answer.ensures.made) in
    let long : length done ≡ 128 = search rules in
    let wide : length marking ≡ 64 = search rules in
    same_call make N.net (new_on (H b) (R b)) tally (row_of (at done) N.net.steps) numbers (row_of (at marking) N.net.places) kind 0 order [] answer s' order' none []
    (ap (λ n. take n done) (c.from.ensures ∙ c.steps.ensures) ∙ front_row done N.net.steps (omega (arith, N.law.few_steps)))
    (ap (λ n. take n marking) (c.from-2.ensures ∙ c.places.ensures) ∙ front_row marking N.net.places (omega (arith, N.law.few_places)))
    c.into.ensures made.findings_are made
