-- Laws of finite sums.
use Rattle.std.proofs.Common.{◌≡◌, ℕ, zero, suc, ◌+◌, ◌<◌, ◌≤◌, sym, refl, ap, ◌∙◌, ⊎_elim, add-one, arith}
use Rattle.std.proofs.lemmas.Bool.{cases_eq}
use Rattle.theory.specs.Sums.{sum_to}

pub sum_to_suc : (f : ℕ → ℕ) (n : ℕ) → sum_to f (n + 1) ≡ sum_to f n + f n
unfolding sum_to
sum_to_suc f n = rw add-one

pub sum_to_same : (f g : ℕ → ℕ) (n : ℕ) → ((p : ℕ) → p < n → f p ≡ g p) → sum_to f n ≡ sum_to g n
unfolding sum_to
sum_to_same f g zero h = refl
sum_to_same f g (suc n) h =
    omega (arith, sum_to_same f g n (λ p l. h p (omega arith)), h n (omega arith))

pub sum_to_none : (f : ℕ → ℕ) (n : ℕ) → ((p : ℕ) → p < n → f p ≡ 0) → sum_to f n ≡ 0
unfolding sum_to
sum_to_none f zero h = refl
sum_to_none f (suc n) h =
    omega (arith, sum_to_none f n (λ p l. h p (omega arith)), h n (omega arith))

pub sum_to_mono : (f g : ℕ → ℕ) (n : ℕ) → ((p : ℕ) → p < n → f p ≤ g p) → sum_to f n ≤ sum_to g n
unfolding sum_to
sum_to_mono f g zero h = omega arith
sum_to_mono f g (suc n) h =
    omega (arith, sum_to_mono f g n (λ p l. h p (omega arith)), h n (omega arith))

pub le_sum_to : (f : ℕ → ℕ) (n p : ℕ) → p < n → f p ≤ sum_to f n
unfolding sum_to
le_sum_to f zero p h = omega arith
le_sum_to f (suc n) p h =
    ⊎_elim (λ (e : p ≡ n). omega (arith, ap f e)) (λ (ne : p ≡ n → ⊥). omega (arith, le_sum_to f n p (omega arith))) (cases_eq p n)

-- two functions that differ at most at p
pub sum_to_change : (f g : ℕ → ℕ) (n p : ℕ) → p < n → ((q : ℕ) → (q ≡ p → ⊥) → g q ≡ f q) → sum_to g n + f p ≡ sum_to f n + g p
unfolding sum_to
sum_to_change f g zero p h d = omega arith
sum_to_change f g (suc n) p h d =
    ⊎_elim
    (λ (e : p ≡ n).
    omega (arith, ap f e, ap g e, sum_to_same g f n (λ q l. d q (λ z. omega (arith, z)))))
    (λ (ne : p ≡ n → ⊥).
    omega (arith, sum_to_change f g n p (omega arith) d, d n (λ z. ne (sym z))))
    (cases_eq p n)

pub sum_to_add : (f g : ℕ → ℕ) (n : ℕ) → sum_to (λ p. f p + g p) n ≡ sum_to f n + sum_to g n
unfolding sum_to
sum_to_add f g zero = refl
sum_to_add f g (suc n) = omega (arith, sum_to_add f g n)

pub sum_to_swap : (f : ℕ → ℕ → ℕ) (n m : ℕ) → sum_to (λ p. sum_to (f p) m) n ≡ sum_to (λ q. sum_to (λ p. f p q) n) m
unfolding sum_to
sum_to_swap f zero m = sym (sum_to_none (λ q. 0) m (λ p l. refl))
sum_to_swap f (suc n) m =
    ap (λ x. x + sum_to (f n) m) (sum_to_swap f n m) ∙ sym (sum_to_add (λ q. sum_to (λ p. f p q) n) (f n) m)

pub sum_to_zero : (f : ℕ → ℕ) → sum_to f 0 ≡ 0
unfolding sum_to
sum_to_zero f = refl

-- the front of a sum with one more stays within the whole
pub sum_to_front : (f : ℕ → ℕ) (n p : ℕ) → p < n → sum_to f p + f p ≤ sum_to f n
unfolding sum_to
sum_to_front f zero p h = omega arith
sum_to_front f (suc n) p h =
    ⊎_elim (λ (e : p ≡ n). omega (arith, ap f e, ap (sum_to f) e)) (λ (ne : p ≡ n → ⊥). omega (arith, sum_to_front f n p (omega arith))) (cases_eq p n)
