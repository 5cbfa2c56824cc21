use Rattle.std.proofs.Common.{◌≡◌, Ok, Err, MatchResult, refl, rules}
use Rattle.answers.specs.Answers.{the_order}
use Rattle.answers.specs.States.{state_of}
use Rattle.handovers.specs.declared.sitting_calls.Done.TheVariants.{Fired, Order}
use Rattle.handovers.proofs.Making.{told_fired, told_order}
use Rattle.handovers.proofs.made_calls.make.Goals as goal

pub returns-in-Fire-clause-made : goal.returns-in-Fire-clause-made
returns-in-Fire-clause-made g c =
    let mapped : MatchResult c.fire.result (λ _. c.map.result ≡ Ok Fired) (λ e. c.map.result ≡ Err e) = search rules in
    rw c.in-Fire.is (record { said = told_fired _ c.fire.result c.map.result c.fire.ensures.answer mapped; left = c.fire.ensures.after; order_is = refl; findings_are = refl })

pub returns-in-Resume-clause-made : goal.returns-in-Resume-clause-made
returns-in-Resume-clause-made g c =
    let a = c.args.sitting.now in
    let N = (g.N.Net.net a.net) in
    let s = state_of (g.B.Board.counts a.board) (g.B.Board.spare a.board) a.done in
    let r = c.resume.result in
    let m = c.map-in-Resume.result in
    let mapped : MatchResult r (λ n. m ≡ Ok (Order n)) (λ e. m ≡ Err e) = search rules in
    rw c.in-Resume.is (record {
      said = told_order _ (the_order N s c.in-Resume.request.tally.now) r m c.resume.ensures.answer mapped;
      left = c.resume.ensures.after;
      order_is = c.resume.ensures.memory;
      findings_are = refl;
    })
