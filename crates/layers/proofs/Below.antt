-- A row of numbers that a loop writes at the places below.
use Rattle.std.proofs.Common.{◌≡◌, ℕ, ◌+◌, ◌<◌, List, length, set, ap, ◌∙◌, inl, inr, arith}
use Rattle.std.proofs.lemmas.Bool.{cases_eq}
use Rattle.std.proofs.lemmas.List.{length-set, get_or-set_same, get_or-set_other}
use Rattle.theory.specs.Rows.{at}
use Rattle.layers.specs.Renamings.{IsRenaming}

-- the numbers of the places below n are written
pub record PlacedTo (n : ℕ) (row numbers below : List ℕ) : Type 0 where
  pub long : length below ≡ 64
  pub placed : (p : ℕ) → p < n → at below (at row p) ≡ at numbers p

-- one number more is written: at a place below that no place before it stands for
pub placed_more : (n : ℕ) (row numbers below : List ℕ) → IsRenaming row → PlacedTo n row numbers below → n < 64 → PlacedTo (n + 1) row numbers (set below (at row n) (at numbers n))
placed_more n row numbers below is h l =
    let here = get_or-set_same below (at row n) (at numbers n) 0 (omega (arith, h.long, is.inside n l)) in
    record {
      long = length-set below (at row n) (at numbers n) ∙ h.long;
      placed = λ p j. elim (cases_eq p n) [
        | inl same ↦ omega (arith, here, ap (λ q. at (set below (at row n) (at numbers n)) (at row q)) same, ap (at numbers) same)
        | inr other ↦
            get_or-set_other below (at row n) (at row p) (at numbers n) 0 (λ e. other (is.apart p n (omega arith) l e))
            ∙ h.placed p (omega (arith, other))
      ];
    }
