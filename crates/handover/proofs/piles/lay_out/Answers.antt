use Rattle.std.proofs.Common.{◌≡◌, ℕ, eqb, ◌≢◌, refl, arith, rules, below_more}
use Rattle.std.proofs.lemmas.Bool.{eq-eqb, ne_eqb, cond-true, cond-false}
use Rattle.theory.specs.Rows as lent
use Rattle.theory.specs.Firing.{only_at}
use Rattle.handover.proofs.piles.lay_out.Goals as goal

elsewhere : (place p n : ℕ) → p ≢ place → only_at place p n ≡ 0
elsewhere place p n ne = cond-false (eqb place p) n 0 (ne_eqb place p (λ e. ne (omega arith)))

here : (place n : ℕ) → only_at place place n ≡ n
here place n = cond-true (eqb place place) n 0 (eq-eqb place place refl)

pub loop-place-preserved : goal.loop-place-preserved
loop-place-preserved g c =
    let place = c.loop-place.place in
    let n = c.unwrap_or.result in
    let is : n ≡ lent.at c.args.start.now place = search rules in
    let put = c.in_ok-put.ensures.answer in
    let inv = c.loop-place.invariant in (
      below_more _ _
          (λ k h. let ne : k ≢ place = omega arith in omega (arith, put.raised k, elsewhere place k n ne, inv.0 k h))
          (omega (arith, put.raised place, here place n, inv.1 place (omega arith), is)),
      λ k h. let ne : k ≢ place = omega arith in omega (arith, put.raised k, elsewhere place k n ne, inv.1 k (omega arith)),
    )
