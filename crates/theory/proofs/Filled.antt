-- An array that a closure fills by index.
use Rattle.std.proofs.Common.{◌≡◌, ℕ, zero, suc, ◌+◌, ◌<◌, ◌≤◌, List, slice_index_or, subst, sym, ⊎_elim, arith}
use Rattle.std.proofs.lemmas.Bool.{cases_eq}
use Rattle.std.specs.Array.{IsFromFnResult, IsFromFnResultFrom}
use denote.Param.Members.{Mut, Called}

module _ {F B : Type 0} (g : Mut F (ℕ × Unit {0}) B) (f : F) (P : ℕ → B → Type 0) (gives : (x : ℕ) (r : B) (q : F) → Called g f (x, tt) r q → (q ≡ f) × P x r) where
  filled_from : (ys : List B) (i n : ℕ) → IsFromFnResultFrom g f ys i n → (k : ℕ) (d : B) → i ≤ k → k < i + n → P k (slice_index_or ys k d)
  filled_from ys i zero e k d l h = absurd (omega arith)
  filled_from ys i (suc n) e k d l h =
      let here = gives i e.1 e.0 e.3 in
      ⊎_elim
      (λ (z : k ≡ i). subst (λ j. P j (slice_index_or ys j d)) (sym z) (subst (P i) (sym (e.2.1 d)) here.1))
      (λ (ne : k ≡ i → ⊥). filled_from ys (i + 1) n (subst (λ p. IsFromFnResultFrom g p ys (i + 1) n) here.0 e.4) k d (omega (arith, ne)) (omega arith))
      (cases_eq k i)

  -- what the closure ensures of an index holds of the element there
  pub filled_holds : {ys : List B} {n : ℕ} → IsFromFnResult g f ys n → (k : ℕ) (d : B) → k < n → P k (slice_index_or ys k d)
  filled_holds {ys} {n} e k d h = filled_from ys 0 n e.each k d (omega arith) (omega arith)

-- the element at an index is what the closure gives there
pub filled_at : {F B : Type 0} (g : Mut F (ℕ × Unit {0}) B) (f : F) (v : ℕ → B) → ((x : ℕ) (r : B) (q : F) → Called g f (x, tt) r q → (q ≡ f) × (r ≡ v x)) → {ys : List B} {n : ℕ} → IsFromFnResult g f ys n → (k : ℕ) (d : B) → k < n → slice_index_or ys k d ≡ v k
filled_at g f v gives e k d h = filled_holds g f (λ x r. r ≡ v x) gives e k d h
