-- Rows of numbers: how long they are, what stands where, and that they are bytes.
use Rattle.std.proofs.Common.{◌≡◌, ℕ, zero, suc, ◌<◌, ◌≤◌, cond, ltb, List, [], ◌∷◌, ◌++◌, length, refl, ap, ◌∙◌, inl, inr, arith, length-append, ⊎_elim}
use Rattle.std.proofs.lemmas.List.{get_or_append_left, get_or_at}
use Rattle.std.proofs.lemmas.Bool.{cases_lt}
use Rattle.std.proofs.lemmas.Bool.Decides.{nat_tests}
use Rattle.theory.specs.Rows.{at, row_of}
use Rattle.formats.specs.Complete.{AreBytes}

pub row_long : (f : ℕ → ℕ) (n : ℕ) → length (row_of f n) ≡ n
row_long f zero = refl
row_long f (suc n) = length-append (row_of f n) (f n ∷ []) ∙ omega (arith, row_long f n)

pub row_at : (f : ℕ → ℕ) (n i : ℕ) → i < n → at (row_of f n) i ≡ f i
row_at f zero i h = absurd (omega arith)
row_at f (suc n) i h =
    ⊎_elim
    (λ (l : i < n). get_or_append_left (row_of f n) (f n ∷ []) 0 i (omega (arith, row_long f n)) ∙ row_at f n i l)
    (λ (l : n ≤ i).
    let e : n ≡ i = omega arith in
    get_or_at (row_of f n) (f n) [] 0 i (row_long f n ∙ e) ∙ ap f e)
    (cases_lt i n)

-- bytes behind bytes are bytes
pub bytes_append : (xs ys : List ℕ) → AreBytes xs → AreBytes ys → AreBytes (xs ++ ys)
bytes_append [] ys h k i = k i
bytes_append (x ∷ xs) ys h k zero = h 0
bytes_append (x ∷ xs) ys h k (suc i) = bytes_append xs ys (λ j. h (suc j)) k i

pub bytes_none : AreBytes []
bytes_none i = omega arith

pub bytes_one : (x : ℕ) (xs : List ℕ) → x ≤ 255 → AreBytes xs → AreBytes (x ∷ xs)
bytes_one x xs h k zero = h
bytes_one x xs h k (suc i) = k i

pub bytes_row : (f : ℕ → ℕ) (n : ℕ) → ((i : ℕ) → f i ≤ 255) → AreBytes (row_of f n)
bytes_row f zero h = bytes_none
bytes_row f (suc n) h = bytes_append (row_of f n) (f n ∷ []) (bytes_row f n h) (bytes_one (f n) [] (h n) bytes_none)

-- what is said of the numbers below T, and 0 from there on
pub of_any_step : (t T x y : ℕ) → (t < T → x ≡ y) → (T ≤ t → y ≡ 0) → cond (ltb t T) x 0 ≡ y
of_any_step t T x y h k = elim (cases_lt t T) [
  | inl l ↦ let e : x ≡ y = h l in grind (arith, nat_tests)
  | inr l ↦ let e : y ≡ 0 = k l in grind (arith, nat_tests)
]

-- the number of a step of the net, and 0 for any other
pub of_step : (t T y : ℕ) → t < T → cond (ltb t T) y 0 ≡ y
of_step t T y h = grind (arith, nat_tests)

pub of_no_step : (t T y : ℕ) → T ≤ t → cond (ltb t T) y 0 ≡ 0
of_no_step t T y h = grind (arith, nat_tests)
