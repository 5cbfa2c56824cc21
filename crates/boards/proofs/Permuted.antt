-- The sum over a permutation of the places is the same sum.
use Rattle.std.specs.Prelude.{◌≡◌, ℕ, zero, suc, ◌*◌, ◌<◌, ◌≤◌, refl}
use Rattle.std.proofs.Common.{sym, ap, ◌∙◌, ⊎_elim, arith, mul-one, mul-add, mul-zero}
use Rattle.std.proofs.lemmas.Bool.{cases_eq}
use Rattle.theory.specs.Sums.{sum_to}
use Rattle.theory.specs.Firing.{only_at}
use Rattle.boards.proofs.AtPlace.{at_same, at_other}
use Rattle.theory.proofs.SumLaws.{sum_to_same, sum_to_none, sum_to_mono, sum_to_swap}

-- one place of all has a value
sum_to_one : (a : ℕ) (f : ℕ → ℕ) (n : ℕ) → a < n → sum_to (λ q. only_at a q (f q)) n ≡ f a
unfolding sum_to
sum_to_one a f zero h = omega arith
sum_to_one a f (suc n) h =
    ⊎_elim
    (λ (e : a ≡ n). omega (arith, sum_to_none (λ q. only_at a q (f q)) n (λ p l. at_other a p (f p) (λ z. omega arith)), at_same a n (f n) e, ap f e))
    (λ (ne : a ≡ n → ⊥). omega (arith, sum_to_one a f n (omega arith), at_other a n (f n) ne))
    (cases_eq a n)

-- as many ones as there are places
sum_to_const : (n : ℕ) → sum_to (λ _. 1) n ≡ n
unfolding sum_to
sum_to_const zero = refl
sum_to_const (suc n) = omega (arith, sum_to_const n)

-- how many places below n go to q
goes : (ℕ → ℕ) → ℕ → ℕ → ℕ
goes m q n = sum_to (λ p. only_at (m p) q 1) n

-- x once for each place that goes to q
times_goes : (m : ℕ → ℕ) (q x n : ℕ) → sum_to (λ p. only_at (m p) q x) n ≡ x * goes m q n
unfolding sum_to goes
times_goes m q x zero = sym (mul-zero x)
times_goes m q x (suc n) =
    ⊎_elim
    (λ (e : m n ≡ q). omega (arith, times_goes m q x n, at_same (m n) q x e, at_same (m n) q 1 e, mul-add x (goes m q n) (only_at (m n) q 1), ap (λ z. x * z) (at_same (m n) q 1 e), mul-one x))
    (λ (ne : m n ≡ q → ⊥). omega (arith, times_goes m q x n, at_other (m n) q x ne, mul-add x (goes m q n) (only_at (m n) q 1), ap (λ z. x * z) (at_other (m n) q 1 ne), mul-zero x))
    (cases_eq (m n) q)

-- no two places go to one
goes_le : (m : ℕ → ℕ) (q n : ℕ) → ((a b : ℕ) → a < n → b < n → m a ≡ m b → a ≡ b) → goes m q n ≤ 1
unfolding sum_to goes
goes_le m q zero d = omega arith
goes_le m q (suc n) d =
    ⊎_elim
    (λ (e : m n ≡ q).
    omega (arith, at_same (m n) q 1 e, sum_to_none (λ p. only_at (m p) q 1) n (λ p l. at_other (m p) q 1 (λ z. omega (arith, d p n (omega arith) (omega arith) (z ∙ sym e))))))
    (λ (ne : m n ≡ q → ⊥).
    omega (arith, at_other (m n) q 1 ne, goes_le m q n (λ a b h k. d a b (omega arith) (omega arith))))
    (cases_eq (m n) q)

-- numbers of at most 1 that add up to how many they are, are all 1
all_one : (g : ℕ → ℕ) (n : ℕ) → ((q : ℕ) → q < n → g q ≤ 1) → sum_to g n ≡ n → (q : ℕ) → q < n → g q ≡ 1
unfolding sum_to
all_one g zero le e q h = omega arith
all_one g (suc n) le e q h =
    let low : sum_to g n ≤ n = omega (arith, sum_to_mono g (λ _. 1) n (λ p l. le p (omega arith)), sum_to_const n) in
    let here = le n (omega arith) in
    ⊎_elim
    (λ (z : q ≡ n). omega (arith, ap g z))
    (λ (ne : q ≡ n → ⊥). all_one g n (λ p l. le p (omega arith)) (omega arith) q (omega arith))
    (cases_eq q n)

-- the sum is the same in another sequence
pub sum_to_permuted :
    (m f : ℕ → ℕ) (n : ℕ) → ((p : ℕ) → p < n → m p < n) → ((a b : ℕ) → a < n → b < n → m a ≡ m b → a ≡ b) →
    sum_to (λ p. f (m p)) n ≡ sum_to f n
unfolding goes
sum_to_permuted m f n into apart =
    let total : sum_to (λ q. goes m q n) n ≡ n =
    sym (sum_to_swap (λ p q. only_at (m p) q 1) n n) ∙ sum_to_same (λ p. sum_to (λ q. only_at (m p) q 1) n) (λ _. 1) n (λ p l. sum_to_one (m p) (λ _. 1) n (into p l)) ∙ sum_to_const n in
    let once = all_one (λ q. goes m q n) n (λ q l. goes_le m q n apart) total in
    sym (sum_to_same (λ p. sum_to (λ q. only_at (m p) q (f q)) n) (λ p. f (m p)) n (λ p l. sum_to_one (m p) f n (into p l)))
    ∙ sum_to_swap (λ p q. only_at (m p) q (f q)) n n
    ∙ sum_to_same (λ q. sum_to (λ p. only_at (m p) q (f q)) n) f n (λ q l. times_goes m q (f q) n ∙ ap (λ z. f q * z) (once q l) ∙ mul-one (f q))
