use Rattle.theory.specs.Nets.{LawfulNet}
use Rattle.std.proofs.Common.{ℕ, Bool, ◌&&◌, ◌||◌, eqb, ltb, sym, ap, ◌∙◌, ◌<◌, arith}
use Rattle.std.proofs.lemmas.Bool.{lt-ltb, le-ltb}
use Rattle.sets.specs.Flags.{has}
use Rattle.theory.specs.Rows.{at}
use Rattle.reached.proofs.Flagged.{any_joined, any_passed_over, or_regroup, met_and}
use Rattle.reached.proofs.Reaching.{input_there}
use Rattle.reached.proofs.cut_off.used_by.Goals as goal
use Rattle.reached.proofs.cut_off.used_by.Goals.{in-Some, in_default}

pub loop-step-preserved : goal.loop-step-preserved
loop-step-preserved g c p =
    let L : LawfulNet = record { net = g.N.Net.net c.args.net.now; law = g.met.N.Net.lawful c.args.net.now } in
    let M = L.net in
    let x : ℕ → ℕ = at c.args.tally.now in
    let n : ℕ = c.loop-step.step in
    let b : ℕ → Bool = λ t. ltb 0 (x t) && (eqb (M.input t) p || ltb 0 (M.yields t p)) in
    elim c.match-input_asked.branch [
      | in-Some w ↦
          let small : w.in-Some.place < 64 = omega (arith, w.in-Some.ensures.0, L.law.inputs_inside n w.in-Some.ensures.1, L.law.few_places) in
          ap (λ (v : ℕ). has v p) w.used-is ∙ w.union-used.ensures p
          ∙ ap (λ (v : Bool). v || has w.yield_places.result p) (w.with.ensures.answer p)
          ∙ or_regroup (has c.loop-step.used p) _ _
          ∙ any_joined b n _ _ (c.loop-step.invariant p)
          (ap (λ (v : Bool). v || has w.yield_places.result p) (input_there p w.in-Some.place small ∙ ap (λ (v : ℕ). eqb v p) w.in-Some.ensures.0)
          ∙ ap (λ (v : Bool). eqb (M.input n) p || v) (w.yield_places.ensures p)
          ∙ sym (met_and (ltb 0 (x n)) _ (lt-ltb 0 (x n) w.in-Some.ensures.2)))
      | in_default w ↦
          ap (λ (v : ℕ). has v p) w.used-is
          ∙ any_passed_over b n _ (c.loop-step.invariant p)
          (ap (λ (v : Bool). v && (eqb (M.input n) p || ltb 0 (M.yields n p)))
          (le-ltb 0 (x n) (omega (arith, w.in_default.ensures (omega (arith, c.loop-step-test.true, c.steps-step-end.ensures))))))
    ]
