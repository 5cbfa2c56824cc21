use Rattle.std.proofs.Common.{◌≡◌, ℕ, replicate, sym, subst, arith}
use Rattle.theory.specs.Rows.{at}
use Rattle.nets.proofs.FilledTo.{zeros}
use Rattle.first_order.proofs.schedule.Schedule.new.Goals as goal

-- a row of empty sets
all_empty : (n w i : ℕ) → w ≡ 0 → at (replicate n w) i ≡ 0
all_empty n w i e = subst (λ (v : ℕ). at (replicate n v) i ≡ 0) (sym e) (zeros n i)

pub invariant_of-result : goal.invariant_of-result
invariant_of-result c = record {
  inputs_inside = λ t. omega (arith, zeros 128 t);
  ready_inside = λ t _. c.empty-3.ensures.answer t;
}

pub returns : goal.returns
returns c = record {
  inputs = zeros 128;
  yields = λ t. all_empty 128 c.empty.result t c.empty.ensures.word;
  takers = λ p. all_empty 64 c.empty-4.result p c.empty-4.ensures.word;
  before = c.new.ensures;
}
