use Rattle.theory.specs.Nets.{LawfulNet}
use Rattle.std.proofs.Common.{◌≡◌, map, vec_items, refl, ap, ◌∙◌, subst}
use mathlib.Core.Path.{fun_ext}
use Rattle.theory.specs.Rows.{at}
use Rattle.theory.specs.Firing.{Marking}
use Rattle.answers.specs.States.{State, new_on, state_of}
use Rattle.answers.specs.Calls.{after_calls}
use Rattle.handovers.specs.Performed.{owned_call, said_of, Kept, AllKept}
use Rattle.handovers.specs.HandedOver.{counters_of}
use Rattle.handovers.proofs.Replaying.{new_held, counters_replay_kept}
use Rattle.handovers.proofs.transcripts.transcribe.Goals as goal

pub returns : goal.returns
returns g c =
    let H = g.B.Board.counts in
    let R = g.B.Board.spare in
    let N : LawfulNet = record { net = g.N.Net.net c.args.net; law = g.met.N.Net.lawful c.args.net } in
    let b = c.args.first in
    let z = c.new-sitting.result in
    let y = c.perform_all.new.sitting in
    let calls = map owned_call c.args.calls.now in
    let said = map said_of (vec_items c.in_ok-said.said) in
    let start = new_on (H b) (R b) in
    let other = new_on (g.C.Board.counts c.args.second) (g.C.Board.spare c.args.second) in
    let s = state_of (H y.board) (R y.board) y.done in
    let A : g.row.N.Denot → Type 0 = λ n. AllKept (g.N.Net.net n) (state_of (H z.board) (R z.board) z.done) calls said s in
    let S : State → Type 0 = λ w. AllKept N.net w calls said s in
    let new : state_of (H z.board) (R z.board) z.done ≡ start =
    ap (λ w. state_of (H w) (R w) z.done) c.new-sitting.ensures.board ∙ new_held (H b) (R b) z.done c.new-sitting.ensures.done in
    let all = subst S new (subst A c.new-sitting.ensures.net c.in_ok-said.ensures.performed) in
    let parts = c.into_parts-net in
    let board = parts.result.1 in
    let done = parts.result.2 in
    let now = state_of (H board) (R board) done in
    let left = ap (λ w. state_of (H w) (R w) done) parts.ensures.board ∙ ap (state_of (H y.board) (R y.board)) parts.ensures.done ∙ all.left in
    let answer = said_of c.in_ok-replay.replay in
    let w = c.in_ok-replay.second in
    let second = state_of (g.C.Board.counts w.board) (g.C.Board.spare w.board) w.done in
    let marking = at c.all_counts-counts.result in
    let D : g.row.N.Denot → Type 0 = λ n. Kept (g.N.Net.net n) other (counters_of (g.N.Net.net n) (state_of marking 0 done) c.args.memory) answer second in
    let C : Marking → Type 0 = λ m. Kept N.net other (counters_of N.net (state_of m 0 done) c.args.memory) answer second in
    let same_net : parts.result.0 ≡ c.args.net = parts.ensures.net ∙ (c.perform_all.ensures.net ∙ c.new-sitting.ensures.net) in
    let made = subst C (fun_ext c.all_counts-counts.ensures.answer) (subst D same_net c.in_ok-replay.ensures) in
    let first_left : now ≡ after_calls N.net start calls = left in
    record {
      transcribed = record {
        calls_made = record { transcript = all.transcript; left = first_left };
        replay_made = made;
        replayed = counters_replay_kept N.net N.law start other (λ t. refl) (λ t. refl) calls c.args.memory now first_left answer second made;
      };
    }
