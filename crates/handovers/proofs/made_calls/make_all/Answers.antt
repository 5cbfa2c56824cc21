use Rattle.std.proofs.Common.{◌≡◌, ℕ, ◌+◌, List, [], ◌∷◌, ◌++◌, ◌<◌, length, map, take, set, sym, ap, ◌∙◌, subst, arith, get_or}
use Rattle.std.proofs.Math.ListN.{length-take}
use Rattle.std.proofs.lemmas.List.{take_more}
use lib.ListN.{length-map}
use Rattle.answers.specs.Calls as answers
use Rattle.answers.specs.States.{state_of}
use Rattle.handovers.specs.declared.sitting_calls.Call.{Call}
use Rattle.handovers.specs.declared.sitting_calls.Call.TheVariants.{Fire}
use Rattle.handovers.specs.Made.{call_of, Made, AllMade}
use Rattle.handovers.proofs.Making.{map_one, all_made_more}
use Rattle.handovers.proofs.made_calls.make_all.Goals as goal

pub loop-i-preserved : goal.loop-i-preserved
loop-i-preserved g c =
    let H = g.B.Board.counts in
    let R = g.B.Board.spare in
    let a = c.args.sitting.now in
    let N = (g.N.Net.net a.net) in
    let s₀ = state_of (H a.board) (R a.board) a.done in
    let z = c.loop-i.sitting in
    let s = state_of (H z.board) (R z.board) z.done in
    let y = c.make.new.sitting in
    let s' = state_of (H y.board) (R y.board) y.done in
    let calls = c.args.calls.now in
    let k = c.loop-i.i in
    let order = c.args.order.now in
    let findings = c.args.findings.now in
    let row = c.args.said.now in
    let order₁ = c.loop-i.order in
    let findings₁ = c.loop-i.findings in
    let row₁ = c.loop-i.said in
    let order₂ = c.make.new.order in
    let findings₂ = c.make.new.findings in
    let answer = c.make.result in
    let item : Call = get_or calls k (Fire 0) in
    let lend : Call → answers.Call = call_of (length order) (length findings) in
    let inv = c.loop-i.invariant in
    let D : g.row.N.Denot → Type 0 = λ n. Made (g.N.Net.net n) s (call_of (length order₁) (length findings₁) item) order₁ findings₁ answer s' order₂ findings₂ in
    let O : ℕ → Type 0 = λ n. Made N s (call_of n (length findings₁) item) order₁ findings₁ answer s' order₂ findings₂ in
    let F : ℕ → Type 0 = λ n. Made N s (call_of (length order) n item) order₁ findings₁ answer s' order₂ findings₂ in
    let made = subst F c.loop-i.auto.findings (subst O c.loop-i.auto.order (subst D inv.0 c.make.ensures.made)) in
    let so_far : List answers.Call = map lend (take k calls) in
    let long : length so_far ≡ k = omega (arith, length-map (take k calls) lend, length-take k calls, c.loop-i-test.true) in
    let room : length so_far < length row = omega (arith, long, c.loop-i-test.true, c.requires) in
    let more = all_made_more N s₀ so_far order findings row s order₁ findings₁ row₁ (lend item) answer s' order₂ findings₂ room inv.1 made in
    let first : so_far ++ (lend item ∷ []) ≡ map lend (take (k + 1) calls) =
    sym (map_one lend (take k calls) item) ∙ ap (map lend) (sym (take_more calls k (Fire 0) c.loop-i-test.true)) in
    let C : List answers.Call → Type 0 = λ w. AllMade N s₀ w order findings row s' order₂ findings₂ (set row₁ (length so_far) answer) in
    let P : ℕ → Type 0 = λ n. AllMade N s₀ (map lend (take (k + 1) calls)) order findings row s' order₂ findings₂ (set row₁ n answer) in
    (c.make.ensures.net ∙ inv.0, subst P long (subst C first more))
