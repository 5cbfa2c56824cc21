-- What a sound table means is a lawful net.
use Rattle.std.proofs.Common.{◌≡◌, ℕ, ◌<◌, ◌≤◌, true, ltb, List, arith}
use Rattle.theory.specs.Nets.{NetLaw}
use Rattle.theory.specs.Rows.{at}
use Rattle.theory.proofs.ReachRounds.{any_find}
use Rattle.formats.specs.Tables.{cell, yields_somewhere, table_net}
use Rattle.formats.proofs.Conditions.{of_step, of_no_step, inside, outside_steps, outside_places, small, positive}

pub table_lawful : (P T : ℕ) (inputs : List ℕ) (yields : List (List ℕ)) → 1 ≤ P → P ≤ 64 → T ≤ 128 →
    ((t : ℕ) → t < T → at inputs t < P) →
    ((t p : ℕ) → t < T → p < P → cell yields t p ≤ 255) →
    ((t : ℕ) → t < T → yields_somewhere yields P t ≡ true) →
    NetLaw (table_net P T inputs yields)
table_lawful P T inputs yields some few_places few_steps inputs_inside yields_small somewhere =
    record {
      some_place = some;
      few_places = few_places;
      few_steps = few_steps;
      inputs_inside = λ t h. omega (arith, inputs_inside t h, of_step t T (at inputs t) h);
      no_input_outside_steps = λ t h. of_no_step t T (at inputs t) h;
      yields_small = λ t p. small t p T P (cell yields t p) (yields_small t p);
      no_yield_outside_steps = λ t p h. outside_steps t p T P (cell yields t p) h;
      no_yield_outside_places = λ t p h. outside_places t p T P (cell yields t p) h;
      yields_something = λ t h.
          let found = any_find (λ p. ltb 0 (cell yields t p)) P (somewhere t h) in (
            found.0,
            omega (
              arith,
              positive (cell yields t found.0) found.2,
              inside t found.0 T P (cell yields t found.0) h found.1,
            ),
          );
    }
