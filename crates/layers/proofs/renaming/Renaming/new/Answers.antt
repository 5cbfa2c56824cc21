use Rattle.std.proofs.Common.{◌≡◌, ℕ, ◌<◌, slice_index, arith, rules}
use Rattle.theory.proofs.Filled.{filled_at}
use Rattle.layers.proofs.renaming.Renaming.new.Goals as goal

pub invariant_of-result : goal.invariant_of-result
invariant_of-result g c =
    let same : (p : ℕ) → p < 64 → slice_index c.from_fn.result p ≡ p = λ p h. filled_at _ _ (λ x. x) (λ x r q e. search rules) c.from_fn.ensures.items p 0 h in
    record {
      lawful = record {
        long = search rules;
        inside = λ p h. omega (arith, same p h);
        apart = λ p q h k e. omega (arith, same p h, same q k, e);
      };
    }

pub returns-clause-row : goal.returns-clause-row
returns-clause-row g c p h = filled_at _ _ (λ x. x) (λ x r q e. search rules) c.from_fn.ensures.items p 0 h
