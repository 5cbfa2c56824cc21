use Rattle.theory.specs.Nets.{LawfulNet}
use Rattle.std.proofs.Common.{rules, true, ◌≡◌, ℕ, ◌+◌, ◌<◌, sym, ap, ◌∙◌, inl, inr, arith}
use Rattle.std.proofs.lemmas.Bool.{cases_lt, ltb-true}
use Rattle.sets.specs.Flags.{has}
use Rattle.sets.proofs.Passed.{passed, none_passed, one_passed, first_not_passed, rest_inside}
use Rattle.theory.specs.Firing.{only_at}
use Rattle.firings.proofs.Puts.{put_none, put_fits, put_more, put_accepted}
use Rattle.firings.proofs.put_yields.Goals as goal

pub loop-place-init : goal.loop-place-init
loop-place-init g c =
    let N = (g.N.Net.net c.args.net.now) in
    let set : ℕ = c.into_iter-place-iterator.result.rest in (
      put_none N.places (g.B.Board.counts c.args.board.now) (g.B.Board.spare c.args.board.now) (N.yields c.args.step) (passed set set) (none_passed set),
      λ p e. e,
    )

pub loop-place-preserved : goal.loop-place-preserved
loop-place-preserved g c =
    let H = g.B.Board.counts in
    let R = g.B.Board.spare in
    let N : LawfulNet = record { net = g.N.Net.net c.args.net.now; law = g.met.N.Net.lawful c.args.net.now } in
    let n : ℕ = N.net.places in
    let Y : ℕ → ℕ = N.net.yields c.args.step in
    let p : ℕ = c.in-Some.place in
    let b₀ = c.args.board.now in
    let b = c.loop-place.board in
    let b' = c.put.new.self in
    let set : ℕ = c.into_iter-place-iterator.result.rest in
    let rest : ℕ = c.loop-place.place-iterator.rest in
    let rest' : ℕ = c.next.new.self.rest in
    let first = c.in-Some.ensures.steps.0 in
    let less = c.in-Some.ensures.steps.1 in
    let inside = c.loop-place.invariant.1 in
    let is_set : set ≡ c.yield_places.result = search rules in
    let there : has c.yield_places.result p ≡ true = sym (ap (λ w. has w p) is_set) ∙ inside p first.passes in
    let some : 0 < Y p = ltb-true 0 (Y p) (sym (c.yield_places.ensures p) ∙ there) in
    let below : p < n = elim (cases_lt p n) [
      | inl l ↦ l
      | inr k ↦ absurd (omega (arith, some, N.law.no_yield_outside_places c.args.step p k))
    ] in
    let inv = c.loop-place.invariant.0 in
    let new = first_not_passed 64 set rest p first in
    let more = one_passed 64 set rest rest' p first inside less in
    let blocks : c.from.result ≡ Y p = c.from.ensures ∙ c.yield_at.ensures in
    let fits = put_fits n Y (passed set rest) (passed set rest') p below new more (R b₀) (R b) c.requires inv.1 in
    let d = put_accepted p c.from.result (H b) (R b) c.put.result (H b') (R b') (omega (arith, first.inside)) (omega (arith, fits, blocks)) c.put.ensures.answer in (
      put_more n Y (passed set rest) (passed set rest') p below new more (H b₀) (R b₀) (H b) (R b) (H b') (R b') inv
          (λ q. d.raised q ∙ ap (λ (v : ℕ). H b q + only_at p q v) blocks)
          (omega (arith, d.lowered, blocks)),
      rest_inside 64 set rest rest' p first inside less,
    )
