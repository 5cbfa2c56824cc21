use Rattle.std.proofs.Common.{◌≡◌, length, map, take}
use Rattle.answers.specs.States.{state_of}
use Rattle.handovers.specs.Made.{call_of, AllMade}
use Rattle.handovers.proofs.made_calls.make_all.Given as goal

-- the calls so far are made
abbrev pub invariant-loop-i : goal.invariant-loop-i
invariant-loop-i g l =
    let H = g.B.Board.counts in
    let R = g.B.Board.spare in
    let a = l.initial.sitting in
    let s = l.sitting in
    (s.net ≡ a.net)
    × AllMade (g.N.Net.net a.net) (state_of (H a.board) (R a.board) a.done)
    (map (call_of (length l.initial.order) (length l.initial.findings)) (take l.i l.calls)) l.initial.order l.initial.findings l.initial.said
    (state_of (H s.board) (R s.board) s.done) l.order l.findings l.said
