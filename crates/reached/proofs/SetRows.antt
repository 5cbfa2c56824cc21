-- Rows of place sets: all empty, and with one set written.
use Rattle.std.proofs.Common.{not, ◌≡◌, ℕ, ◌<◌, ◌≤◌, Bool, true, false, ◌&&◌, ◌||◌, eqb, List, length, replicate, set, ap, ◌∙◌, subst, sym, refl, inl, inr, arith}
use Rattle.std.proofs.lemmas.List.{get_or-set_same, get_or-set_other, get_or-replicate, get_or_past, length-replicate}
use Rattle.std.proofs.lemmas.Bool.{cases_lt, cases_eq, eq-eqb, ne_eqb}
use Rattle.sets.specs.Flags.{has}
use Rattle.sets.proofs.FlagLaws.{has_none}
use Rattle.reached.specs.Led.{has_at}

-- past the end of a row no set has anything
pub past_row : (row : List ℕ) (q p : ℕ) → length row ≤ q → has_at row q p ≡ false
past_row row q p h = ap (λ (v : ℕ). has v p) (get_or_past row q 0 h) ∙ has_none p

-- a row of empty sets
pub none_at : (w n q p : ℕ) → w ≡ 0 → has_at (replicate n w) q p ≡ false
none_at w n q p e = elim (cases_lt q n) [
  | inl l ↦ ap (λ (v : ℕ). has v p) (get_or-replicate n q w 0 l ∙ e) ∙ has_none p
  | inr h ↦ past_row (replicate n w) q p (omega (arith, length-replicate n w))
]

or_nothing : (v : Bool) → (v || false) ≡ v
or_nothing true = refl
or_nothing false = refl

-- a row in which more was added to one set
pub joined : (row : List ℕ) (i w : ℕ) (more : ℕ → Bool) → i < length row → ((p : ℕ) → has w p ≡ (has_at row i p || more p)) →
    (q p : ℕ) → has_at (set row i w) q p ≡ (has_at row q p || (eqb q i && more p))
joined row i w more l all q p = elim (cases_eq q i) [
  | inl e ↦
      subst (λ (j : ℕ). has_at (set row i w) j p ≡ (has_at row j p || (eqb j i && more p))) (sym e)
      (ap (λ (v : ℕ). has v p) (get_or-set_same row i w 0 l) ∙ all p ∙ ap (λ (v : Bool). has_at row i p || (v && more p)) (sym (eq-eqb i i refl)))
  | inr d ↦
      ap (λ (v : ℕ). has v p) (get_or-set_other row i q w 0 d)
      ∙ sym (or_nothing (has_at row q p)) ∙ ap (λ (v : Bool). has_at row q p || (v && more p)) (sym (ne_eqb q i d))
]

and_all : (v : Bool) → (v && not false) ≡ v
and_all true = refl
and_all false = refl

-- a row in which some were taken out of one set
pub reduced : (row : List ℕ) (i w : ℕ) (out : ℕ → Bool) → i < length row → ((p : ℕ) → has w p ≡ (has_at row i p && not (out p))) →
    (q p : ℕ) → has_at (set row i w) q p ≡ (has_at row q p && not (eqb q i && out p))
reduced row i w out l all q p = elim (cases_eq q i) [
  | inl e ↦
      subst (λ (j : ℕ). has_at (set row i w) j p ≡ (has_at row j p && not (eqb j i && out p))) (sym e)
      (ap (λ (v : ℕ). has v p) (get_or-set_same row i w 0 l) ∙ all p ∙ ap (λ (v : Bool). has_at row i p && not (v && out p)) (sym (eq-eqb i i refl)))
  | inr d ↦
      ap (λ (v : ℕ). has v p) (get_or-set_other row i q w 0 d)
      ∙ sym (and_all (has_at row q p)) ∙ ap (λ (v : Bool). has_at row q p && not (v && out p)) (sym (ne_eqb q i d))
]
