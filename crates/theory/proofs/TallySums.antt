-- Sums over the steps of a tally, and of a tally with one step done.
use Rattle.std.proofs.Common.{◌≡◌, ℕ, zero, suc, ◌+◌, ◌-◌, ◌*◌, ◌<◌, eqb, ◌⊎◌, sym, refl, ap, inl, inr, suc-mul, add-mul, mul-zero, zero-mul, arith}
use Rattle.std.proofs.lemmas.Bool.{cases_eq, cases_lt, eq-eqb, ne_eqb, cond-true, cond-false}
use Rattle.theory.specs.Sums.{sum_to}
use Rattle.theory.specs.Firing.{one_at}
use Rattle.theory.specs.Tallies.{Tally}
use Rattle.theory.specs.Orders.{less}
use Rattle.theory.proofs.SumLaws.{sum_to_same, sum_to_change, sum_to_add, sum_to_none}

pub one_same : (a b : ℕ) → a ≡ b → one_at a b ≡ 1
one_same a b e = cond-true (eqb a b) 1 0 (eq-eqb a b e)

pub one_other : (a b : ℕ) → (a ≡ b → ⊥) → one_at a b ≡ 0
one_other a b n = cond-false (eqb a b) 1 0 (ne_eqb a b n)

pub one_tells : (a b : ℕ) → ((a ≡ b) × (one_at a b ≡ 1)) ⊎ ((a ≡ b → ⊥) × (one_at a b ≡ 0))
one_tells a b =
    elim (cases_eq a b) [
      | inl e ↦ inl (e, one_same a b e)
      | inr n ↦ inr (n, one_other a b n)
    ]

-- a sum is zero, or one of its terms is not
pub sum_find : (f : ℕ → ℕ) (n : ℕ) → ((u : ℕ) × (u < n) × (0 < f u)) ⊎ (sum_to f n ≡ 0)
unfolding sum_to
sum_find f zero = inr refl
sum_find f (suc n) =
    elim (sum_find f n) [
      | inl w ↦ inl (w.0, omega arith, w.2)
      | inr z ↦
          elim (cases_lt 0 (f n)) [
            | inl p ↦ inl (n, omega arith, p)
            | inr q ↦ inr (omega arith)
          ]
    ]

-- the factors of a product that is not zero
pub pos_left : (a b : ℕ) → 0 < a * b → 0 < a
pos_left zero b h = absurd (omega (arith, zero-mul b))
pos_left (suc a) b h = omega arith

pub pos_right : (a b : ℕ) → 0 < a * b → 0 < b
pos_right a zero h = absurd (omega (arith, mul-zero a))
pos_right a (suc b) h = omega arith

one_less : (a b c : ℕ) → c ≡ 1 → 0 < a → a * b ≡ (a - c) * b + b
one_less zero b c e h = absurd (omega arith)
one_less (suc a) b c e h =
    let d : suc a - c ≡ a = omega arith in
    rw (d, suc-mul a b) refl

less_other : (x : Tally) (t u : ℕ) → (u ≡ t → ⊥) → x u ≡ less x t u
less_other x t u d = omega (arith, one_other t u (λ e. d (sym e)))

-- a weighted sum over the tally, and over the tally with t done once
pub sum_less : (x : Tally) (w : ℕ → ℕ) (t n : ℕ) → t < n → 0 < x t →
    sum_to (λ u. x u * w u) n ≡ sum_to (λ u. less x t u * w u) n + w t
sum_less x w t n l h =
    let f : ℕ → ℕ = λ u. x u * w u in
    let g : ℕ → ℕ = λ u. less x t u * w u in
    let a : sum_to f n + g t ≡ sum_to g n + f t =
    sum_to_change g f n t l (λ u d. ap (λ (k : ℕ). k * w u) (less_other x t u d)) in
    let b : f t ≡ g t + w t = one_less (x t) (w t) (one_at t t) (one_same t t refl) h in
    omega arith

-- the steps left when t is done once
pub total_less : (x : Tally) (t n : ℕ) → t < n → 0 < x t → sum_to x n ≡ suc (sum_to (less x t) n)
total_less x t n l h =
    let a : sum_to x n + less x t t ≡ sum_to (less x t) n + x t = sum_to_change (less x t) x n t l (less_other x t) in
    omega (arith, one_same t t refl)

-- a weighted sum over two tallies together
pub sum_both : (x y : Tally) (w : ℕ → ℕ) (n : ℕ) →
    sum_to (λ u. (x u + y u) * w u) n ≡ sum_to (λ u. x u * w u) n + sum_to (λ u. y u * w u) n
sum_both x y w n =
    let e : sum_to (λ u. (x u + y u) * w u) n ≡ sum_to (λ u. x u * w u + y u * w u) n =
    sum_to_same (λ u. (x u + y u) * w u) (λ u. x u * w u + y u * w u) n (λ u l. add-mul (x u) (y u) (w u)) in
    omega (arith, sum_to_add (λ u. x u * w u) (λ u. y u * w u) n)

-- a weighted sum over a tally of which nothing is left
pub sum_nothing : (x : Tally) (w : ℕ → ℕ) (n : ℕ) → ((u : ℕ) → u < n → x u ≡ 0) → sum_to (λ u. x u * w u) n ≡ 0
sum_nothing x w n h = sum_to_none (λ u. x u * w u) n (λ u l. rw (h u l, zero-mul) refl)
