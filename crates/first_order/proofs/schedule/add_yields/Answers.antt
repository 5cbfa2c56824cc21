use Rattle.std.proofs.Common.{ℕ, ◌<◌, length, ◌∙◌, arith}
use Rattle.theory.specs.Rows.{at}
use Rattle.sets.proofs.Passed.{rest_inside}
use Rattle.first_order.proofs.Moved.{yield_added}
use Rattle.first_order.proofs.schedule.add_yields.Goals as goal

pub loop-place-preserved : goal.loop-place-preserved
loop-place-preserved g c =
    let k : ℕ = c.in-Some.place in
    let set : ℕ = c.into_iter-place-iterator.result.rest in
    let rest : ℕ = c.loop-place.place-iterator.rest in
    let rest' : ℕ = c.next.new.self.rest in
    let first = c.in-Some.ensures.steps.0 in
    let less = c.in-Some.ensures.steps.1 in
    let inside = c.loop-place.invariant.1 in
    let row = c.loop-place.counts in
    let l : c.from-in-loop-place.result < length row = omega (arith, c.from-in-loop-place.ensures, first.inside, c.told-counts) in (
      yield_added set rest rest' k first inside less row (at c.args.counts.now) ((g.N.Net.net c.args.net.now).yields c.args.step)
          c.from-in-loop-place.result c.from.result c.from-in-loop-place.ensures l (c.from.ensures ∙ c.yield_at.ensures) c.loop-place.invariant.0,
      rest_inside 64 set rest rest' k first inside less,
    )
