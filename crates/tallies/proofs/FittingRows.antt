-- A row of the first numbers of a function, and the front of a row.
use Rattle.std.proofs.Common.{◌≡◌, ℕ, zero, suc, ◌<◌, ◌≤◌, List, [], ◌∷◌, ◌++◌, length, take, sym, refl, ap, ◌∙◌, ⊎_elim, add-one, arith, length-append}
use Rattle.std.proofs.lemmas.List.{get_or_append_left, get_or_at, take_more}
use Rattle.std.proofs.lemmas.Bool.{cases_lt}
use Rattle.theory.specs.Rows.{at, row_of}

pub row_long : (f : ℕ → ℕ) (n : ℕ) → length (row_of f n) ≡ n
row_long f zero = refl
row_long f (suc n) = length-append (row_of f n) (f n ∷ []) ∙ omega (arith, row_long f n)

pub row_at : (f : ℕ → ℕ) (n i : ℕ) → i < n → at (row_of f n) i ≡ f i
row_at f zero i h = absurd (omega arith)
row_at f (suc n) i h =
    ⊎_elim
    (λ (l : i < n). get_or_append_left (row_of f n) (f n ∷ []) 0 i (omega (arith, row_long f n)) ∙ row_at f n i l)
    (λ (l : n ≤ i).
    let e : n ≡ i = omega arith in
    get_or_at (row_of f n) (f n) [] 0 i (row_long f n ∙ e) ∙ ap f e)
    (cases_lt i n)

pub front_row : (row : List ℕ) (n : ℕ) → n ≤ length row → take n row ≡ row_of (at row) n
front_row row zero h = refl
front_row row (suc n) h =
    ap (λ z. take z row) (sym (add-one n))
    ∙ take_more row n 0 (omega arith)
    ∙ ap (λ z. z ++ (at row n ∷ [])) (front_row row n (omega arith))

pub row_same : (f g : ℕ → ℕ) (n : ℕ) → ((i : ℕ) → i < n → f i ≡ g i) → row_of f n ≡ row_of g n
row_same f g zero same = refl
row_same f g (suc n) same =
    ap (λ z. z ++ (f n ∷ [])) (row_same f g n (λ i h. same i (omega arith))) ∙ ap (λ z. row_of g n ++ (z ∷ [])) (same n (omega arith))
