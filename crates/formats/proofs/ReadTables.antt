-- A table that holds the answers of a net means that net.
use Rattle.std.proofs.Common.{◌≡◌, ℕ, ◌<◌, ◌≤◌, true, ltb, List, sym, ◌∙◌, inl, inr, arith}
use mathlib.Core.Path.{fun_ext}
use Rattle.std.proofs.lemmas.Bool.{cases_lt, lt-ltb}
use Rattle.theory.specs.Nets.{NetMeaning, NetLaw}
use Rattle.theory.specs.Rows.{at}
use Rattle.theory.proofs.ReachRounds.{any_from}
use Rattle.formats.specs.Tables.{cell, yields_somewhere, table_net}
use Rattle.formats.proofs.Conditions.{of_step, of_no_step, inside, outside_steps, outside_places}

-- the table holds every answer of the net
pub record Holds (N : NetMeaning) (P T : ℕ) (row : List ℕ) (cells : List (List ℕ)) : Type 0 where
  pub places : P ≡ N.places
  pub steps : T ≡ N.steps
  pub inputs : (t : ℕ) → t < N.steps → at row t ≡ N.input t
  pub yields : (t p : ℕ) → t < N.steps → p < N.places → cell cells t p ≡ N.yields t p

module _ (N : NetMeaning) (law : NetLaw N) (P T : ℕ) (inputs : List ℕ) (yields : List (List ℕ)) (holds : Holds N P T inputs yields) where
  same_input : (t : ℕ) → (table_net P T inputs yields).input t ≡ N.input t
  same_input t =
      elim (cases_lt t T) [
        | inl h ↦ of_step t T (at inputs t) h ∙ holds.inputs t (omega (arith, holds.places, holds.steps))
        | inr h ↦ of_no_step t T (at inputs t) h ∙ sym (law.no_input_outside_steps t (omega (arith, holds.places, holds.steps)))
      ]

  same_yield : (t p : ℕ) → (table_net P T inputs yields).yields t p ≡ N.yields t p
  same_yield t p =
      let y : ℕ = cell yields t p in
      elim (cases_lt t T) [
        | inl h ↦
            elim (cases_lt p P) [
              | inl k ↦ inside t p T P y h k ∙ holds.yields t p (omega (arith, holds.places, holds.steps)) (omega (arith, holds.places, holds.steps))
              | inr k ↦ outside_places t p T P y k ∙ sym (law.no_yield_outside_places t p (omega (arith, holds.places, holds.steps)))
            ]
        | inr h ↦ outside_steps t p T P y h ∙ sym (law.no_yield_outside_steps t p (omega (arith, holds.places, holds.steps)))
      ]

  -- both are 0 outside the net, so the meanings are equal and not only alike inside it
  pub same_net : table_net P T inputs yields ≡ N
  same_net =
      λ i. record {
        places = holds.places i;
        steps = holds.steps i;
        input = fun_ext same_input i;
        yields = fun_ext (λ t. fun_ext (same_yield t)) i;
      }

  pub yields_small : (t p : ℕ) → t < T → p < P → cell yields t p ≤ 255
  yields_small t p h k =
      omega (arith, law.yields_small t p, holds.yields t p (omega (arith, holds.places, holds.steps)) (omega (arith, holds.places, holds.steps)))

  pub inputs_within : (t : ℕ) → t < T → at inputs t < P
  inputs_within t h = let k : t < N.steps = omega (arith, holds.places, holds.steps) in omega (arith, holds.inputs t k, law.inputs_inside t k)

  pub yields_at_some_place : (t : ℕ) → t < T → yields_somewhere yields P t ≡ true
  yields_at_some_place t h =
      let step : t < N.steps = omega (arith, holds.places, holds.steps) in
      let found = law.yields_something t step in
      let p : ℕ = found.0 in
      let place : p < N.places = elim (cases_lt p N.places) [
        | inl k ↦ k
        | inr k ↦ absurd (omega (arith, found.1, law.no_yield_outside_places t p k))
      ] in
      any_from (λ q. ltb 0 (cell yields t q)) p P (omega (arith, holds.places, holds.steps))
      (lt-ltb 0 (cell yields t p) (omega (arith, found.1, holds.yields t p step place)))
