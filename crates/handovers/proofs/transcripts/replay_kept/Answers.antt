use Rattle.theory.specs.Nets.{LawfulNet}
use Rattle.std.proofs.Common.{◌≡◌, ℕ, [], length, rules, refl, ◌∙◌, subst}
use Rattle.theory.specs.Rows.{at}
use Rattle.answers.specs.States.{new_on, state_of}
use Rattle.handovers.specs.HandedOver.{counters_of}
use Rattle.handovers.specs.Performed.{said_of, with_front, Kept}
use Rattle.handovers.proofs.Performing.{front_alone, made_kept}
use Rattle.handovers.proofs.transcripts.replay_kept.Goals as goal

pub returns : goal.returns
returns g c =
    let N : LawfulNet = record { net = g.N.Net.net c.args.net; law = g.met.N.Net.lawful c.args.net } in
    let s = new_on (g.C.Board.counts c.args.board) (g.C.Board.spare c.args.board) in
    let now = state_of (at c.args.marking.now) 0 c.args.done.now in
    let w = c.replay-told.result.1 in
    let s' = state_of (g.C.Board.counts w.board) (g.C.Board.spare w.board) w.done in
    let order = c.as_mut_slice.result.now in
    let order' = c.replay-told.new.order in
    let told = c.replay-told.result.0 in
    let long : length order ≡ c.args.memory = search rules in
    let call = counters_of N.net now (length order) in
    let kept = made_kept N.net N.law s call order [] told s' order' [] refl c.replay-told.ensures.made in
    let order_long : length order' ≡ c.in_ok-order.order.len = search rules in
    let heard : said_of c.kept.result ≡ with_front told order' [] =
    c.kept.ensures ∙ front_alone told c.in_ok-order.order.len order' _ _ order_long c.new.ensures.items in
    let K : ℕ → Type 0 = λ n. Kept N.net s (counters_of N.net now n) (said_of c.kept.result) s' in
    subst K long (record { said = heard ∙ kept.said; left = kept.left })
