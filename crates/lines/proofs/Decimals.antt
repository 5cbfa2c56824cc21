-- The digits of a number, and of a row of numbers.
use Rattle.std.proofs.Common.{◌≡◌, ℕ, suc, ◌+◌, ◌*◌, ◌<◌, ◌≤◌, List, [], ◌∷◌, ◌++◌, length, get_or, take, drop, decimal, sym, refl, ap, ◌∙◌, append_assoc, arith, length-append}
use Rattle.std.proofs.lemmas.Fmt.{length-decimal-le}
use Rattle.std.proofs.lemmas.List.{append-nil, take_more, take-append-drop}
use Rattle.lines.specs.Lines.{numbers, words}

pub numbers_both : (a b : List ℕ) → numbers (a ++ b) ≡ numbers a ++ numbers b
numbers_both [] b = refl
numbers_both (x ∷ a) b =
    ap (λ z. (32 ∷ decimal x) ++ z) (numbers_both a b) ∙ sym (append_assoc (32 ∷ decimal x) (numbers a) (numbers b))

-- one number more of a row
pub numbers_more : (row : List ℕ) (i : ℕ) → i < length row → numbers (take i row) ++ (32 ∷ decimal (get_or row i 0)) ≡ numbers (take (i + 1) row)
numbers_more row i h =
    sym (ap numbers (take_more row i 0 h) ∙ numbers_both (take i row) (get_or row i 0 ∷ []) ∙ ap (λ z. numbers (take i row) ++ z) (append-nil (32 ∷ decimal (get_or row i 0))))

pub one_more_long : (row : List ℕ) (i : ℕ) → i < length row →
    length (numbers (take (i + 1) row)) ≡ length (numbers (take i row)) + (1 + length (decimal (get_or row i 0)))
one_more_long row i h =
    ap length (sym (numbers_more row i h)) ∙ length-append (numbers (take i row)) (32 ∷ decimal (get_or row i 0)) ∙ omega arith

-- the numbers at the front are no longer than all
pub front_short : (row : List ℕ) (i : ℕ) → length (numbers (take i row)) ≤ length (numbers row)
front_short row i =
    omega (arith, ap (λ z. length (numbers z)) (take-append-drop i row), ap length (numbers_both (take i row) (drop i row)), length-append (numbers (take i row)) (numbers (drop i row)))

-- the front of a row and what is behind it are as long as all
pub both_long : (row front behind : List ℕ) (i : ℕ) → front ≡ take i row → behind ≡ drop i row → length (numbers row) ≡ length (numbers front) + length (numbers behind)
both_long row front behind i f b =
    sym (ap (λ z. length (numbers z)) (ap (λ z. z ++ behind) f ∙ ap (λ z. take i row ++ z) b ∙ take-append-drop i row))
    ∙ ap length (numbers_both front behind) ∙ length-append (numbers front) (numbers behind)

-- how long a line is
pub words_long : (word row : List ℕ) → length (words word row) ≡ length word + length (numbers row) + 1
words_long word row =
    length-append word (numbers row ++ (10 ∷ [])) ∙ omega (arith, length-append (numbers row) (10 ∷ []))

-- numbers of at most three digits take at most four bytes each
pub numbers_short : (row : List ℕ) → ((i : ℕ) → get_or row i 0 < 1000) → length (numbers row) ≤ 4 * length row
numbers_short [] small = omega arith
numbers_short (n ∷ row) small =
    omega (arith, length-append (32 ∷ decimal n) (numbers row), length-decimal-le 3 n (omega arith) (small 0) (omega (arith, small 0)), numbers_short row (λ i. small (suc i)))

-- two numbers of at most five digits
pub two_short : (a b : ℕ) → a < 100000 → b < 100000 → length (numbers (a ∷ b ∷ [])) ≤ 12
two_short a b small small' =
    omega (
      arith,
      length-append (32 ∷ decimal a) (numbers (b ∷ [])),
      length-append (32 ∷ decimal b) [],
      length-decimal-le 5 a (omega arith) small (omega (arith, small)),
      length-decimal-le 5 b (omega arith) small' (omega (arith, small')),
    )
