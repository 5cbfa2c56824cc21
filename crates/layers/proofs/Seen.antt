-- Flags for the places that a row has named so far.
use Rattle.std.proofs.Common.{◌≡◌, ℕ, ◌+◌, ◌<◌, Bool, true, false, List, length, get_or, set, replicate, sym, ◌∙◌, subst, ⊎_elim, arith}
use Rattle.std.proofs.lemmas.List.{length-set, length-replicate, get_or-replicate, get_or_past, get_or-set_same, get_or-set_other}
use Rattle.std.proofs.lemmas.Bool.{cases_eq, cases_lt, both_ways}
use Rattle.layers.specs.Renamings.{IsRenaming}

-- the first i numbers of the row are different places, and just these have their flag set
pub record Seen (row : List ℕ) (i : ℕ) (flags : List Bool) : Type 0 where
  pub long : length flags ≡ 64
  pub inside : (k : ℕ) → k < i → get_or row k 0 < 64
  pub flagged : (k : ℕ) → k < i → get_or flags (get_or row k 0) false ≡ true
  pub named : (v : ℕ) → get_or flags v false ≡ true → (k : ℕ) × (k < i) × (get_or row k 0 ≡ v)
  pub apart : (p q : ℕ) → p < i → q < i → get_or row p 0 ≡ get_or row q 0 → p ≡ q

no_flag : (n v : ℕ) → get_or (replicate n false) v false ≡ false
no_flag n v =
    ⊎_elim (λ h. get_or-replicate n v false false h) (λ h. get_or_past (replicate n false) v false (omega (arith, length-replicate n false))) (cases_lt v n)

pub seen_none : (row : List ℕ) → Seen row 0 (replicate 64 false)
seen_none row =
    record {
      long = length-replicate 64 false;
      inside = λ k h. omega arith;
      flagged = λ k h. absurd (omega arith);
      named = λ v e. absurd (both_ways _ (no_flag 64 v) e);
      apart = λ p q h k e. omega arith;
    }

-- a place that was not flagged is none of those before it
pub new_place : (row : List ℕ) (i : ℕ) (flags : List Bool) → Seen row i flags → get_or flags (get_or row i 0) false ≡ false → (k : ℕ) → k < i → get_or row k 0 ≡ get_or row i 0 → ⊥
new_place row i flags s free k h e =
    both_ways (get_or flags (get_or row i 0) false) free (subst (λ v. get_or flags v false ≡ true) e (s.flagged k h))

pub seen_more : (row : List ℕ) (i : ℕ) (flags : List Bool) → Seen row i flags → get_or row i 0 < 64 → get_or flags (get_or row i 0) false ≡ false → Seen row (i + 1) (set flags (get_or row i 0) true)
seen_more row i flags s small free =
    let here = get_or row i 0 in
    let lit = get_or-set_same flags here true false (omega (arith, s.long)) in
    record {
      long = length-set flags here true ∙ s.long;
      inside = λ k h. ⊎_elim (λ (l : k < i). s.inside k l) (λ l. let e : k ≡ i = omega arith in subst (λ j. get_or row j 0 < 64) (sym e) small) (cases_lt k i);
      flagged =
          λ k h.
          ⊎_elim
          (λ (e : get_or row k 0 ≡ here). subst (λ v. get_or (set flags here true) v false ≡ true) (sym e) lit)
          (λ ne.
          ⊎_elim (λ (l : k < i). get_or-set_other flags here (get_or row k 0) true false ne ∙ s.flagged k l) (λ l. let e : k ≡ i = omega arith in absurd (ne (subst (λ j. get_or row j 0 ≡ here) (sym e) (λ _. here)))) (cases_lt k i))
          (cases_eq (get_or row k 0) here);
      named =
          λ v f.
          ⊎_elim
          (λ (e : v ≡ here). (i, omega arith, sym e))
          (λ ne. let old = s.named v (sym (get_or-set_other flags here v true false ne) ∙ f) in (old.0, omega (arith, old.1), old.2))
          (cases_eq v here);
      apart =
          λ p q h k e.
          ⊎_elim
          (λ (l : p < i).
          ⊎_elim (λ (m : q < i). s.apart p q l m e) (λ m. let z : q ≡ i = omega arith in absurd (new_place row i flags s free p l (subst (λ j. get_or row p 0 ≡ get_or row j 0) z e))) (cases_lt q i))
          (λ l.
          let y : p ≡ i = omega arith in
          ⊎_elim (λ (m : q < i). absurd (new_place row i flags s free q m (sym (subst (λ j. get_or row j 0 ≡ get_or row q 0) y e)))) (λ m. omega arith) (cases_lt q i))
          (cases_lt p i);
    }

pub seen_all : (row : List ℕ) (i : ℕ) (flags : List Bool) → Seen row i flags → length row ≡ 64 → i ≡ 64 → IsRenaming row
seen_all row i flags s long e =
    record {
      long = long;
      inside = λ p h. s.inside p (omega arith);
      apart = λ p q h k same. s.apart p q (omega arith) (omega arith) same;
    }

-- a place above 63 makes it no renaming
pub place_outside : (row : List ℕ) (i : ℕ) → i < 64 → 63 < get_or row i 0 → IsRenaming row → ⊥
place_outside row i h big is = omega (arith, is.inside i h)

-- nor does one that was named before
pub named_twice : (row : List ℕ) (i : ℕ) (flags : List Bool) → Seen row i flags → i < 64 → get_or flags (get_or row i 0) false ≡ true → IsRenaming row → ⊥
named_twice row i flags s h f is =
    let old = s.named (get_or row i 0) f in
    omega (arith, old.1, is.apart old.0 i (omega (arith, old.1)) h old.2)
