use Rattle.theory.specs.Nets.{LawfulNet}
use Rattle.std.proofs.Common.{◌≡◌, ◌+◌, ◌-◌, length, take, None, Some, Err, ap, ◌∙◌, rules}
use Rattle.theory.specs.Rows.{at}
use Rattle.theory.specs.Firing.{after}
use Rattle.theory.specs.Tallies.{steps_asked}
use Rattle.answers.specs.States.{yields_asked, state_of, target_of}
use Rattle.answers.proofs.Resumes.{fits_now}
use Rattle.answers.specs.Answers.{size_refusal, cause_refusal}
use Rattle.answers.proofs.Answered.{refused_with, accepted_with}
use Rattle.answers.proofs.Options.{or_first, or_second}
use Rattle.sittings.proofs.Checked.{sizes_as_asked, causes_as_asked, accepted_as_asked}
use Rattle.sittings.proofs.Leaves.{refused_tally, accepted_tally}
use Rattle.sittings.proofs.Accepted.{can_be_done, counts_fit, found_long, found_written, front_order, front_does, front_few}
use Rattle.sittings.proofs.tally.fire_tally.Goals as goal

pub returns-in_err-kind : goal.returns-in_err-kind
returns-in_err-kind g c =
    let a = c.args in
    let N = (g.N.Net.net a.net.now) in
    let H = g.B.Board.counts a.board.now in
    let R = g.B.Board.spare a.board.now in
    let tally = a.tally.now in
    let T = target_of a.target.numbers.now a.target.kind in
    let memory = a.memory.now in
    let e = c.in_err-kind.field-0.0 in
    let size = sizes_as_asked N H R a.done.now tally a.target.numbers.now a.target.kind (length memory)
    (g.N.Net.net c.of-flow.result.net.now) c.of-flow.result.tally.now (ap (λ z. (g.N.Net.net z)) c.of-flow.ensures.net) c.of-flow.ensures.tally c.spare.result (Some e) c.spare.ensures.answer (c.in_err-kind.ensures H) in
    let said : c.from_residual.result ≡ Err e = search rules in
    refused_tally N (state_of H R a.done.now) tally T memory e c.from_residual.result said
    (or_first (size_refusal N (state_of H R a.done.now) tally T (length memory)) (cause_refusal N H (at tally) T) e size)

pub returns-in_err-check_causes : goal.returns-in_err-check_causes
returns-in_err-check_causes g c =
    let a = c.args in
    let N = (g.N.Net.net a.net.now) in
    let H = g.B.Board.counts a.board.now in
    let R = g.B.Board.spare a.board.now in
    let tally = a.tally.now in
    let T = target_of a.target.numbers.now a.target.kind in
    let memory = a.memory.now in
    let e = c.in_err-check_causes.field-0.0 in
    let checked = c.in_ok-kind.ensures H in
    let size = sizes_as_asked N H R a.done.now tally a.target.numbers.now a.target.kind (length memory)
    (g.N.Net.net c.of-flow.result.net.now) c.of-flow.result.tally.now (ap (λ z. (g.N.Net.net z)) c.of-flow.ensures.net) c.of-flow.ensures.tally c.spare.result None c.spare.ensures.answer checked.0 in
    let cause =
    causes_as_asked N H R a.done.now tally a.target.numbers.now a.target.kind (length memory)
    (g.N.Net.net c.of-flow.result.net.now) c.of-flow.result.tally.now (ap (λ z. (g.N.Net.net z)) c.of-flow.ensures.net) c.of-flow.ensures.tally
    c.all_counts-counts.result c.in_ok-kind.kind c.all_counts-counts.ensures.answer checked.1
    (Some e) (refused_with _ tt e c.in_err-check_causes.ensures) in
    let said : c.from_residual-in_err-check_causes.result ≡ Err e = search rules in
    refused_tally N (state_of H R a.done.now) tally T memory e c.from_residual-in_err-check_causes.result said
    (or_second (size_refusal N (state_of H R a.done.now) tally T (length memory)) (cause_refusal N H (at tally) T) e size cause)

pub write_first_order-length-requires : goal.write_first_order-length-requires
write_first_order-length-requires g c =
    let a = c.args in
    let N : LawfulNet = record { net = g.N.Net.net a.net.now; law = g.met.N.Net.lawful a.net.now } in
    let H = g.B.Board.counts a.board.now in
    let R = g.B.Board.spare a.board.now in
    let T = target_of a.target.numbers.now a.target.kind in
    let checked = c.in_ok-kind.ensures H in
    let none =
    accepted_as_asked N.net H R a.done.now a.tally.now a.target.numbers.now a.target.kind (length a.memory.now)
    (g.N.Net.net c.of-flow.result.net.now) c.of-flow.result.tally.now (ap (λ z. (g.N.Net.net z)) c.of-flow.ensures.net) c.of-flow.ensures.tally
    c.all_counts-counts.result c.in_ok-kind.kind c.all_counts-counts.ensures.answer checked.1
    c.spare.result c.spare.ensures.answer checked.0 (accepted_with _ tt tt c.in_ok-check_causes.ensures) in
    record {
      can = can_be_done N.net N.law H R (g.met.B.Board.bounded a.board.now) (g.met.B.Board.outside a.board.now) a.done.now a.tally.now T a.memory.now none c.all_counts-counts.result c.all_counts-counts.ensures.answer;
      fits = counts_fit N.net N.law H R (g.met.B.Board.bounded a.board.now) (g.met.B.Board.outside a.board.now) a.done.now a.tally.now T a.memory.now none c.all_counts-counts.result c.all_counts-counts.ensures.answer;
      long = (fits_now N.net N.law (state_of H R a.done.now) a.tally.now T (length a.memory.now) none).memory_holds;
    }

pub move_order-requires : goal.move_order-requires
move_order-requires g c =
    let a = c.args in
    let N : LawfulNet = record { net = g.N.Net.net a.net.now; law = g.met.N.Net.lawful a.net.now } in
    let H = g.B.Board.counts a.board.now in
    let R = g.B.Board.spare a.board.now in
    let T = target_of a.target.numbers.now a.target.kind in
    let checked = c.in_ok-kind.ensures H in
    let none =
    accepted_as_asked N.net H R a.done.now a.tally.now a.target.numbers.now a.target.kind (length a.memory.now)
    (g.N.Net.net c.of-flow.result.net.now) c.of-flow.result.tally.now (ap (λ z. (g.N.Net.net z)) c.of-flow.ensures.net) c.of-flow.ensures.tally
    c.all_counts-counts.result c.in_ok-kind.kind c.all_counts-counts.ensures.answer checked.1
    c.spare.result c.spare.ensures.answer checked.0 (accepted_with _ tt tt c.in_ok-check_causes.ensures) in
    let w = c.write_first_order-length in
    record {
      does = rw (c.of-flow.ensures.net, c.of-flow.ensures.tally) (front_does N.net N.law H R (g.met.B.Board.bounded a.board.now) (g.met.B.Board.outside a.board.now) a.done.now a.tally.now T a.memory.now none c.all_counts-counts.result c.all_counts-counts.ensures.answer w.result w.new.memory w.ensures.answer w.ensures.memory);
      few = front_few N.net N.law H R (g.met.B.Board.bounded a.board.now) (g.met.B.Board.outside a.board.now) a.done.now a.tally.now T a.memory.now none c.all_counts-counts.result c.all_counts-counts.ensures.answer w.result w.new.memory w.ensures.answer w.ensures.memory;
      room = rw (c.of-flow.ensures.net, c.of-flow.ensures.tally) ((fits_now N.net N.law (state_of H R a.done.now) a.tally.now T (length a.memory.now) none).spare_holds);
    }

pub returns : goal.returns
returns g c =
    let a = c.args in
    let N : LawfulNet = record { net = g.N.Net.net a.net.now; law = g.met.N.Net.lawful a.net.now } in
    let H = g.B.Board.counts a.board.now in
    let R = g.B.Board.spare a.board.now in
    let T = target_of a.target.numbers.now a.target.kind in
    let checked = c.in_ok-kind.ensures H in
    let none =
    accepted_as_asked N.net H R a.done.now a.tally.now a.target.numbers.now a.target.kind (length a.memory.now)
    (g.N.Net.net c.of-flow.result.net.now) c.of-flow.result.tally.now (ap (λ z. (g.N.Net.net z)) c.of-flow.ensures.net) c.of-flow.ensures.tally
    c.all_counts-counts.result c.in_ok-kind.kind c.all_counts-counts.ensures.answer checked.1
    c.spare.result c.spare.ensures.answer checked.0 (accepted_with _ tt tt c.in_ok-check_causes.ensures) in
    let w = c.write_first_order-length in
    let b' = c.move_order.new.board in
    let order = front_order N.net N.law H R (g.met.B.Board.bounded a.board.now) (g.met.B.Board.outside a.board.now) a.done.now a.tally.now T a.memory.now none c.all_counts-counts.result c.all_counts-counts.ensures.answer w.result w.new.memory w.ensures.answer w.ensures.memory in
    accepted_tally N.net (state_of H R a.done.now) a.tally.now T a.memory.now w.result
    (g.B.Board.counts b') (g.B.Board.spare b') w.new.memory none
    (found_long N.net N.law H R (g.met.B.Board.bounded a.board.now) (g.met.B.Board.outside a.board.now) a.done.now a.tally.now T a.memory.now none c.all_counts-counts.result c.all_counts-counts.ensures.answer w.result w.new.memory w.ensures.answer w.ensures.memory)
    (c.move_order.ensures.counts
    ∙ ap (λ z. after (g.N.Net.net z) H (take w.result w.new.memory)) c.of-flow.ensures.net
    ∙ ap (after N.net H) order)
    (c.move_order.ensures.spare
    ∙ ap (λ z. (R + steps_asked (g.N.Net.net z) (at c.of-flow.result.tally.now)) - yields_asked (g.N.Net.net z) (at c.of-flow.result.tally.now)) c.of-flow.ensures.net
    ∙ ap (λ x. (R + steps_asked N.net (at x)) - yields_asked N.net (at x)) c.of-flow.ensures.tally)
    (found_written N.net N.law H R (g.met.B.Board.bounded a.board.now) (g.met.B.Board.outside a.board.now) a.done.now a.tally.now T a.memory.now none c.all_counts-counts.result c.all_counts-counts.ensures.answer w.result w.new.memory w.ensures.answer w.ensures.memory)
