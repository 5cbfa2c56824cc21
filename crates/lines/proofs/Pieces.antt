-- The pieces: a space, the digits of a number below 128, and no matter what behind them.
use Rattle.std.proofs.Common.{◌≡◌, ℕ, zero, suc, ◌+◌, ◌-◌, ◌*◌, ◌/◌, ◌%◌, ◌<◌, ◌≤◌, Bool, true, cond, ◌&&◌, T, eqb, ltb, List, [], ◌∷◌, ◌++◌, length, get_or, take, set, decimal, sym, refl, ap, ◌∙◌, inl, inr, ⊎_elim, arith, eq-zero-or-pos, eqb→eq, length-take, length-set}
use lib.Ieee.Fits.{and_l, and_r}
use Rattle.std.proofs.Math.Seq.{take-append-add}
use Rattle.std.proofs.lemmas.List.{take-take}
use Rattle.std.proofs.lemmas.Bool.{cases_lt, lt-ltb, le-ltb}
use Rattle.std.proofs.lemmas.Fmt.{decimal_digit}
use Rattle.lines.specs.Lines.{Puts}
use Rattle.lines.specs.declared.numbers.TheConstants.{PIECES}
use Rattle.lines.proofs.Putting.{puts_both}
use Rattle.lines.proofs.Digits.{decimal_two, decimal_three, puts_two}

abbrev byte_of_piece : ℕ → ℕ → ℕ
byte_of_piece n i = get_or PIECES (4 * n + i) 0

abbrev has_digits : ℕ → Bool
has_digits n =
    cond
    (ltb n 10)
    (eqb (byte_of_piece n 1) (48 + n))
    (cond
    (ltb n 100)
    (eqb (byte_of_piece n 1) (48 + n / 10) && eqb (byte_of_piece n 2) (48 + n % 10))
    (eqb (byte_of_piece n 1) (48 + n / 100) && (eqb (byte_of_piece n 2) (48 + n % 100 / 10) && eqb (byte_of_piece n 3) (48 + n % 100 % 10))))

abbrev are_pieces : ℕ → Bool
are_pieces zero = true
are_pieces (suc n) = (eqb (get_or PIECES (4 * n) 0) 32 && has_digits n) && are_pieces n

below : (k n : ℕ) → T (are_pieces k) → n < k → T (eqb (get_or PIECES (4 * n) 0) 32 && has_digits n)
below zero n t h = absurd (omega arith)
below (suc k) n t h =
    elim (eq-zero-or-pos (k - n)) [
      | inl z ↦ let e : n ≡ k = omega arith in rw e (and_l _ (are_pieces k) t)
      | inr g ↦ below k n (and_r _ (are_pieces k) t) (omega arith)
    ]

pub piece_at : (n : ℕ) → n < 128 →
    take (1 + length (decimal n)) (get_or PIECES (4 * n) 0 ∷ byte_of_piece n 1 ∷ byte_of_piece n 2 ∷ byte_of_piece n 3 ∷ []) ≡ 32 ∷ decimal n
piece_at n h =
    let t = below 128 n tt h in
    let p₀ = get_or PIECES (4 * n) 0 in
    let p₁ = byte_of_piece n 1 in
    let p₂ = byte_of_piece n 2 in
    let p₃ = byte_of_piece n 3 in
    let space : p₀ ≡ 32 = eqb→eq p₀ 32 (and_l (eqb p₀ 32) (has_digits n) t) in
    let digits : T (has_digits n) = and_r (eqb p₀ 32) (has_digits n) t in
    let piece = p₀ ∷ p₁ ∷ p₂ ∷ p₃ ∷ [] in
    ⊎_elim
    (λ (l : n < 10).
    let d₁ : p₁ ≡ 48 + n = eqb→eq p₁ (48 + n) (rw (lt-ltb n 10 l) at digits) in
    let long : 1 + length (decimal n) ≡ 2 = omega (arith, ap length (decimal_digit n l)) in
    ap (λ k. take k piece) long ∙ ap (λ z. z ∷ p₁ ∷ []) space ∙ ap (λ z. 32 ∷ z ∷ []) d₁ ∙ ap (λ z. 32 ∷ z) (sym (decimal_digit n l)))
    (λ (m : 10 ≤ n).
    let more = rw (le-ltb n 10 m) at digits in
    ⊎_elim
    (λ (l : n < 100).
    let two = rw (lt-ltb n 100 l) at more in
    let d₁ : p₁ ≡ 48 + n / 10 = eqb→eq p₁ (48 + n / 10) (and_l (eqb p₁ (48 + n / 10)) (eqb p₂ (48 + n % 10)) two) in
    let d₂ : p₂ ≡ 48 + n % 10 = eqb→eq p₂ (48 + n % 10) (and_r (eqb p₁ (48 + n / 10)) (eqb p₂ (48 + n % 10)) two) in
    let long : 1 + length (decimal n) ≡ 3 = omega (arith, ap length (decimal_two n m l)) in
    ap (λ k. take k piece) long
    ∙ ap (λ z. z ∷ p₁ ∷ p₂ ∷ []) space
    ∙ ap (λ z. 32 ∷ z ∷ p₂ ∷ []) d₁
    ∙ ap (λ z. 32 ∷ (48 + n / 10) ∷ z ∷ []) d₂
    ∙ ap (λ z. 32 ∷ z) (sym (decimal_two n m l)))
    (λ (k : 100 ≤ n).
    let three = rw (le-ltb n 100 k) at more in
    let e₁ = eqb p₁ (48 + n / 100) in
    let e₂ = eqb p₂ (48 + n % 100 / 10) in
    let e₃ = eqb p₃ (48 + n % 100 % 10) in
    let d₁ : p₁ ≡ 48 + n / 100 = eqb→eq p₁ (48 + n / 100) (and_l e₁ (e₂ && e₃) three) in
    let d₂ : p₂ ≡ 48 + n % 100 / 10 = eqb→eq p₂ (48 + n % 100 / 10) (and_l e₂ e₃ (and_r e₁ (e₂ && e₃) three)) in
    let d₃ : p₃ ≡ 48 + n % 100 % 10 = eqb→eq p₃ (48 + n % 100 % 10) (and_r e₂ e₃ (and_r e₁ (e₂ && e₃) three)) in
    let long : 1 + length (decimal n) ≡ 4 = omega (arith, ap length (decimal_three n k (omega arith))) in
    ap (λ k. take k piece) long
    ∙ ap (λ z. z ∷ p₁ ∷ p₂ ∷ p₃ ∷ []) space
    ∙ ap (λ z. 32 ∷ z ∷ p₂ ∷ p₃ ∷ []) d₁
    ∙ ap (λ z. 32 ∷ (48 + n / 100) ∷ z ∷ p₃ ∷ []) d₂
    ∙ ap (λ z. 32 ∷ (48 + n / 100) ∷ (48 + n % 100 / 10) ∷ z ∷ []) d₃
    ∙ ap (λ z. 32 ∷ z) (sym (decimal_three n k (omega arith))))
    (cases_lt n 100))
    (cases_lt n 10)

-- the front of what is put is put too
pub puts_less : (bytes line : List ℕ) (n : ℕ) (l' : List ℕ) (n' k e : ℕ) → n ≤ length line → Puts bytes line n l' n' → k ≤ length bytes → e ≡ n + k → Puts (take k bytes) line n l' e
puts_less bytes line n l' n' k e inside p short end = record {
  ends = omega (arith, length-take k bytes);
  front =
      ap (λ z. take z l') end
      ∙ sym (take-take (n + k) n' l' (omega (arith, p.ends)))
      ∙ ap (take (n + k)) p.front
      ∙ ap (λ z. take (z + k) (take n line ++ bytes)) (sym long)
      ∙ take-append-add (take n line) bytes k;
}
  where
    long : length (take n line) ≡ n
    long = omega (arith, length-take n line)

pub puts_four : (x y z w : ℕ) (line : List ℕ) (n : ℕ) → n + 4 ≤ length line →
    Puts (x ∷ y ∷ z ∷ w ∷ []) line n (set (set (set (set line n x) (n + 1) y) (n + 2) z) (n + 3) w) (n + 4)
puts_four x y z w line n room =
    let l₂ = set (set line n x) (n + 1) y in
    puts_both (x ∷ y ∷ []) (z ∷ w ∷ []) line n l₂ (n + 2) (set (set l₂ (n + 2) z) (n + 3) w) (n + 4) (puts_two x y line n (n + 1) (n + 2) (omega arith) refl refl)
    (puts_two z w l₂ (n + 2) (n + 3) (n + 4) (omega (arith, length-set line n x, length-set (set line n x) (n + 1) y)) (omega arith) (omega arith))
