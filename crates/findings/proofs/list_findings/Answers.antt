use Rattle.theory.specs.Nets.{LawfulNet}
use Rattle.std.proofs.Common.{◌≡◌, ℕ, ◌<◌, ◌≤◌, ◌&&◌, ◌++◌, length, Some, None, Ok, Err, refl, sym, ap, ◌∙◌, subst, arith, rules}
use mathlib.Core.Path.{fun_ext}
use Rattle.std.proofs.lemmas.Bool.{lt-ltb}
use Rattle.refusals.specs.Answered.{answered}
use Rattle.theory.specs.Rows.{at, found_below}
use Rattle.theory.specs.Tests.{is_short, is_cut_off}
use Rattle.answers.specs.Answers.{unless, written, is_missed}
use Rattle.answers.specs.Findings.{findings, survey_refusal, short_finding, cut_off_finding, missed_finding, finding_at}
use Rattle.answers.proofs.Sizes.{survey_fits}
use Rattle.answers.proofs.Unless.{unless_refused, unless_accepted}
use Rattle.answers.specs.Kinds.{target_with}
use Rattle.answers.specs.States.{state_of, target_of}
use Rattle.bounded_list.proofs.Written.{Written}
use Rattle.sets.specs.Flags.{has}
use Rattle.findings.proofs.Listed.{found_by, three_groups}
use Rattle.findings.proofs.list_findings.Goals as goal

pub returns-in_err-kind : goal.returns-in_err-kind
returns-in_err-kind g c =
    let N : LawfulNet = record { net = g.N.Net.net c.args.net.now; law = g.met.N.Net.lawful c.args.net.now } in
    let b = c.args.board.now in
    let H = g.B.Board.counts b in
    let s = state_of H (g.B.Board.spare b) c.args.done.now in
    let tally = c.args.tally.now in
    let T = target_of c.args.target.numbers.now c.args.target.kind in
    let memory = c.args.memory.now in
    let all = findings N.net H (at tally) T in
    let o = survey_refusal N.net s tally T (length memory) in
    let e = c.in_err-kind.field-0.0 in
    let some : o ≡ Some e = c.in_err-kind.ensures H (g.B.Board.spare b) in
    let said : c.from_residual.result ≡ Err e = search rules in
    record {
      answer = said ∙ ap (λ z. answered z (length all)) (sym some);
      memory = unless_refused o e memory (written all memory) some;
    }

pub returns : goal.returns
returns g c =
    let N : LawfulNet = record { net = g.N.Net.net c.args.net.now; law = g.met.N.Net.lawful c.args.net.now } in
    let b = c.args.board.now in
    let H = g.B.Board.counts b in
    let s = state_of H (g.B.Board.spare b) c.args.done.now in
    let tally = c.args.tally.now in
    let x = at tally in
    let T = target_of c.args.target.numbers.now c.args.target.kind in
    let memory = c.args.memory.now in
    let P = N.net.places in
    let few = N.law.few_places in
    let all = findings N.net H x T in
    let o = survey_refusal N.net s tally T (length memory) in
    let checked = c.in_ok-kind.ensures H (g.B.Board.spare b) in
    let none : o ≡ None = checked.0 in
    let K = target_with c.args.target.numbers.now c.in_ok-kind.kind in
    let kind : K ≡ T = ap (target_of c.args.target.numbers.now) (sym checked.1) in
    let m = at c.all_counts-counts.result in
    let counted : m ≡ H = fun_ext c.all_counts-counts.ensures.answer in
    let word = c.cut_off_places-cut_off.result in
    let first = finding_at (is_short N.net m x) (short_finding N.net m x) in
    let second = finding_at (has word) cut_off_finding in
    let third = finding_at (is_missed N.net m x K) (missed_finding N.net m x K) in
    let cut : (p : ℕ) → p < P → has word p ≡ is_cut_off N.net m x p =
    λ p h. c.cut_off_places-cut_off.ensures p ∙ ap (λ z. z && is_cut_off N.net m x p) (lt-ltb p P h) in
    let groups : found_below first P ++ (found_below second P ++ found_below third P) ≡ all =
    ap (λ z. z ++ (found_below second P ++ found_below third P)) (found_by (is_short N.net m x) (is_short N.net m x) (short_finding N.net m x) P (λ p h. refl))
    ∙ ap (λ z. found_below (finding_at (is_short N.net m x) (short_finding N.net m x)) P ++ (z ++ found_below third P)) (found_by (is_cut_off N.net m x) (has word) cut_off_finding P cut)
    ∙ ap (λ z. found_below (finding_at (is_short N.net m x) (short_finding N.net m x)) P ++ (found_below (finding_at (is_cut_off N.net m x) cut_off_finding) P ++ z))
    (found_by (is_missed N.net m x K) (is_missed N.net m x K) (missed_finding N.net m x K) P (λ p h. refl))
    ∙ ap (λ z. findings N.net z x K) counted
    ∙ ap (findings N.net H x) kind in
    let lent = c.new-findings.result.memory.now in
    let room : 192 ≤ length lent = omega (arith, (survey_fits N.net s tally T (length memory) none).memory_holds, ap length c.new-findings.ensures.memory) in
    let l₁ = c.add_found.new.list in
    let l₂ = c.add_found-2.new.list in
    let l₃ = c.add_found-3.new.list in
    let end = c.from-places.result in
    let W : ℕ → Type 0 = λ z. Written lent (found_below first z ++ (found_below second z ++ found_below third z)) l₃.memory.now l₃.len in
    let w = subst W (c.from-places.ensures ∙ c.places.ensures) (three_groups first second third end lent (omega (arith, few, c.from-places.ensures, c.places.ensures)) room c.new-findings.result.len
    c.add_found.result l₁.memory.now l₁.len c.add_found-2.result l₂.memory.now l₂.len c.add_found-3.result l₃.memory.now l₃.len
    c.new-findings.ensures.empty (c.add_found.ensures.adds first (λ k r l e. search rules)) (c.add_found-2.ensures.adds second (λ k r l e. search rules)) (c.add_found-3.ensures.adds third (λ k r l e. search rules))) in
    let front : l₃.memory.now ≡ written all memory = w.front ∙ ap (λ z. written z lent) groups ∙ ap (written all) c.new-findings.ensures.memory in
    let after : l₃.memory.now ≡ unless o memory (written all memory) = unless_accepted o memory (written all memory) l₃.memory.now none front in
    record {
      answer = ap Ok (c.len.ensures ∙ (w.long ∙ ap length groups)) ∙ ap (λ z. answered z (length all)) (sym none);
      memory = search rules;
    }
