use Rattle.theory.specs.Nets.{LawfulNet}
use Rattle.std.proofs.Common.{◌≡◌, ◌<◌, length, ℕ, Bool, ◌&&◌, ◌||◌, eqb, ltb, sym, ap, ◌∙◌, arith}
use Rattle.std.proofs.lemmas.Bool.{lt-ltb, le-ltb}
use Rattle.std.proofs.lemmas.List.{length-replicate, length-set}
use Rattle.std.proofs.lemmas.Grind.{get_or_default_zero}
use Rattle.theory.specs.Tests.{any_below}
use Rattle.sets.specs.Flags.{has}
use Rattle.theory.specs.Rows.{at}
use Rattle.reached.specs.Led.{has_at}
use Rattle.reached.specs.Leads.{takes}
use Rattle.reached.proofs.Flagged.{any_joined, any_passed_over, met_and, same_eqb}
use Rattle.reached.proofs.SetRows.{none_at, joined}
use Rattle.reached.proofs.leads.leads_of.Goals as goal
use Rattle.reached.proofs.leads.leads_of.Goals.{in-Some, in_default}

pub loop-step-init : goal.loop-step-init
loop-step-init g c = (λ q p. none_at _ 64 q p c.empty-leads.ensures.word, length-replicate 64 c.empty-leads.result)

pub loop-step-preserved : goal.loop-step-preserved
loop-step-preserved g c =
    let L : LawfulNet = record { net = g.N.Net.net c.args.net.now; law = g.met.N.Net.lawful c.args.net.now } in
    let M = L.net in
    let x : ℕ → ℕ = at c.args.tally.now in
    let n : ℕ = c.loop-step.step in
    let row = c.loop-step.leads in
    let b : ℕ → ℕ → ℕ → Bool = λ q p t. takes M x q t && ltb 0 (M.yields t p) in
    elim c.match-input_asked.branch [
      | in-Some w ↦
          let i : w.from-place.result ≡ M.input n = w.from-place.ensures ∙ w.in-Some.ensures.0 in
          let l : w.from-place.result < length row = omega (arith, i, L.law.inputs_inside n w.in-Some.ensures.1, L.law.few_places, c.loop-step.invariant.1) in (
            λ q p.
                ap (λ row. has_at row q p) w.leads-is
                ∙ joined row w.from-place.result w.union.result (has w.yield_places.result) l
                (λ p. w.union.ensures p ∙ ap (λ v. has v p || has w.yield_places.result p) (get_or_default_zero row w.from-place.result w.index-leads-place.result l)) q p
                ∙ any_joined (b q p) n _ _ (c.loop-step.invariant.0 q p)
                (ap (λ (v : Bool). eqb q w.from-place.result && v) (w.yield_places.ensures p)
                ∙ ap (λ (v : Bool). v && ltb 0 (M.yields n p))
                (same_eqb q w.from-place.result ∙ ap (λ (v : ℕ). eqb v q) i
                ∙ sym (met_and (ltb 0 (x n)) (eqb (M.input n) q) (lt-ltb 0 (x n) w.in-Some.ensures.2)))),
            ap length w.leads-is ∙ length-set row w.from-place.result w.union.result ∙ c.loop-step.invariant.1,
          )
      | in_default w ↦
          let none : x n ≡ 0 = w.in_default.ensures (omega (arith, c.loop-step-test.true, c.steps-step-end.ensures)) in (
            λ q p.
                ap (λ row. has_at row q p) w.leads-is
                ∙ any_passed_over (b q p) n _ (c.loop-step.invariant.0 q p)
                (ap (λ (v : Bool). (v && eqb (M.input n) q) && ltb 0 (M.yields n p)) (le-ltb 0 (x n) (omega arith))),
            ap length w.leads-is ∙ c.loop-step.invariant.1,
          )
    ]

pub returns : goal.returns
returns g c q p =
    let M = (g.N.Net.net c.args.net.now) in
    c.loop-step.invariant.0 q p
    ∙ ap (any_below (λ t. takes M (at c.args.tally.now) q t && ltb 0 (M.yields t p)))
    (omega (arith, c.loop-step-test.false, c.loop-step.auto.step-end, c.steps-step-end.ensures))
