-- Numbers that stand under a condition.
use Rattle.std.proofs.Common.{◌≡◌, ℕ, ◌<◌, ◌≤◌, true, cond, ◌&&◌, ltb, inl, inr, arith}
use Rattle.std.proofs.lemmas.Bool.{cases_lt}
use Rattle.std.proofs.lemmas.Bool.Decides.{nat_tests}

pub of_step : (t T y : ℕ) → t < T → cond (ltb t T) y 0 ≡ y
of_step t T y h = grind (arith, nat_tests)

pub of_no_step : (t T y : ℕ) → T ≤ t → cond (ltb t T) y 0 ≡ 0
of_no_step t T y h = grind (arith, nat_tests)

pub inside : (t p T P y : ℕ) → t < T → p < P → cond (ltb t T && ltb p P) y 0 ≡ y
inside t p T P y h k = grind (arith, nat_tests)

pub outside_steps : (t p T P y : ℕ) → T ≤ t → cond (ltb t T && ltb p P) y 0 ≡ 0
outside_steps t p T P y h = grind (arith, nat_tests)

pub outside_places : (t p T P y : ℕ) → P ≤ p → cond (ltb t T && ltb p P) y 0 ≡ 0
outside_places t p T P y h = grind (arith, nat_tests)

pub small : (t p T P y : ℕ) → (t < T → p < P → y ≤ 255) → cond (ltb t T && ltb p P) y 0 ≤ 255
small t p T P y h =
    elim (cases_lt t T) [
      | inl k ↦
          elim (cases_lt p P) [
            | inl l ↦ omega (arith, inside t p T P y k l, h k l)
            | inr l ↦ omega (arith, outside_places t p T P y l)
          ]
      | inr k ↦ omega (arith, outside_steps t p T P y k)
    ]

pub positive : (y : ℕ) → ltb 0 y ≡ true → 0 < y
positive y e = grind (arith, nat_tests)
