use Rattle.theory.specs.Nets.{LawfulNet}
use Rattle.std.proofs.Common.{◌≡◌, ◌≤◌, List, [], length, map, sym, refl, ap, ◌∙◌, subst, arith}
use lib.ListN.{length-map}
use mathlib.Core.Path.{fun_ext}
use Rattle.theory.specs.Rows.{at}
use Rattle.theory.specs.Firing.{Marking}
use Rattle.answers.specs.States.{State, new_on, state_of}
use Rattle.answers.specs.Calls.{Call}
use Rattle.answers.proofs.Pinning.{pinned}
use Rattle.answers.proofs.Promised.{promise}
use Rattle.handovers.specs.Made.{call_of, Made, AllMade}
use Rattle.handovers.specs.HandedOver.{counters_of}
use Rattle.handovers.proofs.Replaying.{new_held, handed_over}
use Rattle.handovers.proofs.Memories.{all_sized}
use Rattle.handovers.proofs.second_sitting.hand_over.Goals as goal

pub returns-then-said-calls-clause-promise : goal.returns-then-said-calls-clause-promise
returns-then-said-calls-clause-promise g c = promise

pub returns-then-said-calls-clause-pinned : goal.returns-then-said-calls-clause-pinned
returns-then-said-calls-clause-pinned g c = pinned

pub returns-clause-promise : goal.returns-clause-promise
returns-clause-promise g c = promise

pub returns-clause-pinned : goal.returns-clause-pinned
returns-clause-pinned g c = pinned

pub returns-clause-handed_over : goal.returns-clause-handed_over
returns-clause-handed_over g c =
    let H = g.B.Board.counts in
    let R = g.B.Board.spare in
    let N : LawfulNet = record { net = g.N.Net.net c.args.net; law = g.met.N.Net.lawful c.args.net } in
    let b = c.args.first in
    let z = c.new-sitting.result in
    let y = c.make_all.new.sitting in
    let order = c.args.memory.order.now in
    let findings = c.args.memory.findings.now in
    let row = c.args.memory.said.now in
    let memory = c.args.memory.replay.now in
    let order' = c.make_all.new.order in
    let findings' = c.make_all.new.findings in
    let row' = c.make_all.new.said in
    let memory' = c.replay-replay.new.order in
    let calls : List Call = map (call_of (length order) (length findings)) c.args.calls.now in
    let start = new_on (H b) (R b) in
    let other = new_on (g.C.Board.counts c.args.second) (g.C.Board.spare c.args.second) in
    let s = state_of (H y.board) (R y.board) y.done in
    let A : g.row.N.Denot → Type 0 = λ n. AllMade (g.N.Net.net n) (state_of (H z.board) (R z.board) z.done) calls order findings row s order' findings' row' in
    let S : State → Type 0 = λ w. AllMade N.net w calls order findings row s order' findings' row' in
    let new : state_of (H z.board) (R z.board) z.done ≡ start =
    ap (λ w. state_of (H w) (R w) z.done) c.new-sitting.ensures.board ∙ new_held (H b) (R b) z.done c.new-sitting.ensures.done in
    let all = subst S new (subst A c.new-sitting.ensures.net c.make_all.ensures.made) in
    let parts = c.into_parts-net in
    let board = parts.result.1 in
    let done = parts.result.2 in
    let now = state_of (H board) (R board) done in
    let left : now ≡ s = ap (λ w. state_of (H w) (R w) done) parts.ensures.board ∙ ap (state_of (H y.board) (R y.board)) parts.ensures.done in
    let L : State → Type 0 = λ w. AllMade N.net start calls order findings row w order' findings' row' in
    let answer = c.replay-replay.result.0 in
    let w = c.replay-replay.result.1 in
    let second = state_of (g.C.Board.counts w.board) (g.C.Board.spare w.board) w.done in
    let marking = at c.all_counts-counts.result in
    let D : g.row.N.Denot → Type 0 = λ n. Made (g.N.Net.net n) other (counters_of (g.N.Net.net n) (state_of marking 0 done) (length memory)) memory [] answer second memory' [] in
    let C : Marking → Type 0 = λ m. Made N.net other (counters_of N.net (state_of m 0 done) (length memory)) memory [] answer second memory' [] in
    let same_net : parts.result.0 ≡ c.args.net = parts.ensures.net ∙ (c.make_all.ensures.net ∙ c.new-sitting.ensures.net) in
    let made = subst C (fun_ext c.all_counts-counts.ensures.answer) (subst D same_net c.replay-replay.ensures.made) in
    let long : length calls ≤ length row = omega (arith, length-map c.args.calls.now (call_of (length order) (length findings)), c.if-said-calls.false) in
    handed_over N.net N.law start other (λ t. refl) (λ t. refl) calls memory order findings row now second answer order' findings' row' memory' long (all_sized (length order) (length findings) c.args.calls.now) (subst L (sym left) all) made

-- stated, so that a refusal at another length is refused by this fact
pub returns-then-said-calls-clause-refused : goal.returns-then-said-calls-clause-refused
returns-then-said-calls-clause-refused g c = (omega (arith, c.if-said-calls.true), refl, refl)
