-- A row of counts in which a loop moves blocks place by place.
use Rattle.std.proofs.Common.{◌≡◌, ℕ, ◌+◌, ◌<◌, ◌≤◌, List, length, set, ap, ◌∙◌, inl, inr, arith}
use Rattle.std.proofs.lemmas.Bool.{cases_eq, cases_lt}
use Rattle.std.proofs.lemmas.List.{length-set, get_or-set_same, get_or-set_other, get_or_past}
use Rattle.theory.specs.Rows.{at}
use Rattle.boards.specs.Rows.{RowMoved}

-- the places below n have moved, the others are as they were
pub record MovedTo (n : ℕ) (counts taken put row : List ℕ) : Type 0 where
  pub long : length row ≡ 64
  pub moved : (p : ℕ) → p < n → at row p + at taken p ≡ at counts p + at put p
  pub ahead : (p : ℕ) → n ≤ p → at row p ≡ at counts p

-- one place more has moved
pub moved_more : (n : ℕ) (counts taken put row : List ℕ) (v : ℕ) → MovedTo n counts taken put row → n < 64 → v + at taken n ≡ at row n + at put n → MovedTo (n + 1) counts taken put (set row n v)
moved_more n counts taken put row v h l e = record {
  long = length-set row n v ∙ h.long;
  moved = λ p j. elim (cases_eq p n) [
    | inl same ↦
        omega (arith, e, h.ahead n (omega arith), get_or-set_same row n v 0 (omega (arith, h.long)), ap (at (set row n v)) same, ap (at taken) same, ap (at counts) same, ap (at put) same)
    | inr other ↦ omega (arith, get_or-set_other row n p v 0 other, h.moved p (omega (arith, other)))
  ];
  ahead = λ p j. get_or-set_other row n p v 0 (λ f. omega arith) ∙ h.ahead p (omega arith);
}

-- all places have moved
pub moved_all : (counts taken put row : List ℕ) → length counts ≡ 64 → length taken ≡ 64 → length put ≡ 64 → MovedTo 64 counts taken put row → RowMoved counts taken put row
moved_all counts taken put row c t u h = record {
  long = h.long;
  moved = λ p. elim (cases_lt p 64) [
    | inl l ↦ h.moved p l
    | inr k ↦ omega (arith, h.ahead p k, get_or_past taken p 0 (omega arith), get_or_past put p 0 (omega arith))
  ];
}
