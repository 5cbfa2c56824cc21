use Rattle.theory.specs.Nets.{LawfulNet}
use Rattle.std.proofs.Common.{Some, None, sym, refl, ◌∙◌}
use Rattle.theory.specs.Rows.{at}
use Rattle.theory.specs.Tests.{least, is_short, is_cut_off}
use Rattle.answers.specs.Answers.{is_missed}
use Rattle.answers.specs.Kinds.{target_with}
use Rattle.findings.proofs.CutOffs.{first_is_least, same_answer}
use Rattle.findings.proofs.first_cause.check_causes.Goals as goal

pub returns-in-Some-first : goal.returns-in-Some-first
returns-in-Some-first g c =
    let a = c.args.asked.now in
    let N : LawfulNet = record { net = g.N.Net.net a.flow.now.net.now; law = g.met.N.Net.lawful a.flow.now.net.now } in
    let m = at a.counts.now in
    let x = at a.flow.now.tally.now in
    let P = N.net.places in
    let T = target_with a.target.now a.kind in
    let cut = first_is_least (is_cut_off N.net m x) P c.cut_off_places.result c.cut_off_places.ensures c.first.result c.first.ensures.cases in
    same_answer None (Some c.in-Some-first.place) (least (is_missed N.net m x T) P) (least (is_short N.net m x) P) (least (is_cut_off N.net m x) P) (least (is_missed N.net m x T) P)
    (sym c.in_default.is ∙ c.least_short.ensures) (sym c.in-Some-first.is ∙ cut) (refl)

pub returns-in-Some-least_missed : goal.returns-in-Some-least_missed
returns-in-Some-least_missed g c =
    let a = c.args.asked.now in
    let N : LawfulNet = record { net = g.N.Net.net a.flow.now.net.now; law = g.met.N.Net.lawful a.flow.now.net.now } in
    let m = at a.counts.now in
    let x = at a.flow.now.tally.now in
    let P = N.net.places in
    let T = target_with a.target.now a.kind in
    let cut = first_is_least (is_cut_off N.net m x) P c.cut_off_places.result c.cut_off_places.ensures c.first.result c.first.ensures.cases in
    same_answer None None (Some c.in-Some-least_missed.place) (least (is_short N.net m x) P) (least (is_cut_off N.net m x) P) (least (is_missed N.net m x T) P)
    (sym c.in_default.is ∙ c.least_short.ensures) (sym c.in_default-first.is ∙ cut) (sym c.in-Some-least_missed.is ∙ c.least_missed.ensures)

pub returns : goal.returns
returns g c =
    let a = c.args.asked.now in
    let N : LawfulNet = record { net = g.N.Net.net a.flow.now.net.now; law = g.met.N.Net.lawful a.flow.now.net.now } in
    let m = at a.counts.now in
    let x = at a.flow.now.tally.now in
    let P = N.net.places in
    let T = target_with a.target.now a.kind in
    let cut = first_is_least (is_cut_off N.net m x) P c.cut_off_places.result c.cut_off_places.ensures c.first.result c.first.ensures.cases in
    same_answer None None None (least (is_short N.net m x) P) (least (is_cut_off N.net m x) P) (least (is_missed N.net m x T) P)
    (sym c.in_default.is ∙ c.least_short.ensures) (sym c.in_default-first.is ∙ cut) (sym c.in_default-least_missed.is ∙ c.least_missed.ensures)
