use Rattle.std.proofs.Common.{◌≡◌, ℕ, ◌+◌, ◌-◌, ◌%◌, set, refl, ap, ◌∙◌, arith}
use Rattle.theory.specs.Rows.{at}
use Rattle.first_order.specs.declared.schedule.Schedule.{Schedule}
use Rattle.first_order.proofs.Counting.{shows_more_left, shows_last_gone}
use Rattle.first_order.proofs.schedule.Schedule.count_down.Goals as goal

pub returns-then-left-eq0 : goal.returns-then-left-eq0
returns-then-left-eq0 c N m x law h l k =
    let s : Schedule = c.args.self.now in
    let t : ℕ = c.args.step in
    let was : at s.left c.from.result ≡ x t = ap (at s.left) c.from.ensures ∙ h.left t l in
    let less : (at s.left c.from.result + 65535) % 65536 ≡ at s.left t - 1 = omega (arith, was, h.left t l) in
    let row : set s.left c.from-2.result _ ≡ set s.left t (at s.left t - 1) =
    ap (set s.left c.from-2.result) less ∙ ap (λ (i : ℕ). set s.left i (at s.left t - 1)) c.from-2.ensures in
    shows_last_gone N law m x s h t l k _
    (record { left = row; inputs = refl; yields = refl; counts = refl; marked = refl; ready = refl; takers = refl; before = refl })
    (omega (arith, was, c.if-left-eq0.true)) c.finish.new.self c.finish.ensures

pub returns-else-left-eq0 : goal.returns-else-left-eq0
returns-else-left-eq0 c N m x law h l k =
    let s : Schedule = c.args.self.now in
    let t : ℕ = c.args.step in
    let was : at s.left c.from.result ≡ x t = ap (at s.left) c.from.ensures ∙ h.left t l in
    let less : (at s.left c.from.result + 65535) % 65536 ≡ at s.left t - 1 = omega (arith, was, h.left t l) in
    let row : set s.left c.from-2.result _ ≡ set s.left t (at s.left t - 1) =
    ap (set s.left c.from-2.result) less ∙ ap (λ (i : ℕ). set s.left i (at s.left t - 1)) c.from-2.ensures in
    shows_more_left N law m x s h t l k _
    (record { left = row; inputs = refl; yields = refl; counts = refl; marked = refl; ready = refl; takers = refl; before = refl })
    (omega (arith, was, c.if-left-eq0.false))
