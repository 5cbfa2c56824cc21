-- The digits of a number below 1,000, each put down where it belongs or where the next one is put over it.
use Rattle.std.proofs.Common.{◌≡◌, ℕ, ◌+◌, ◌/◌, ◌%◌, ◌<◌, ◌≤◌, ◌^◌, List, [], ◌∷◌, ◌++◌, length, set, decimal, sym, ap, ◌∙◌, append_assoc, ⊎_elim, arith, length-append}
use Rattle.std.proofs.lemmas.Fmt.{decimal_digit, decimal_step}
use Rattle.std.proofs.lemmas.List.{set-set, length-set}
use Rattle.std.proofs.lemmas.Bool.{cases_lt, le-leb, lt-leb}
use Rattle.std.specs.Int.{from_bool}
use Rattle.std.specs.Prelude.{nat_le as leb}
use Rattle.lines.specs.Lines.{three_digits, Puts}
use Rattle.lines.proofs.Putting.{puts_one, puts_both, puts_like, puts_to}

pub decimal_two : (n : ℕ) → 10 ≤ n → n < 100 → decimal n ≡ (48 + n / 10) ∷ (48 + n % 10) ∷ []
decimal_two n lo hi = rw (decimal_step n lo (omega arith), decimal_digit (n / 10) (omega arith))

pub decimal_three : (n : ℕ) → 100 ≤ n → n < 1000 → decimal n ≡ three_digits n
decimal_three n lo hi =
    let a : n / 10 / 10 ≡ n / 100 = omega arith in
    let b : n / 10 % 10 ≡ n % 100 / 10 = omega arith in
    let c : n % 10 ≡ n % 100 % 10 = omega arith in
    rw (decimal_step n (omega arith) (omega arith), decimal_two (n / 10) (omega arith) (omega arith), a, b, c)

-- a longer number has three digits behind those of its thousands
pub decimal_long : (n : ℕ) → 1000 ≤ n → n < 2 ^ 64 → decimal n ≡ decimal (n / 1000) ++ three_digits (n % 1000)
decimal_long n lo hi =
    let z : n / 10 / 10 / 10 ≡ n / 1000 = omega arith in
    let a : n / 10 / 10 % 10 ≡ n % 1000 / 100 = omega arith in
    let b : n / 10 % 10 ≡ n % 1000 % 100 / 10 = omega arith in
    let c : n % 10 ≡ n % 1000 % 100 % 10 = omega arith in
    let front = decimal (n / 1000) in
    rw (decimal_step n (omega arith) hi, decimal_step (n / 10) (omega arith) (omega arith), decimal_step (n / 10 / 10) (omega arith) (omega arith), z, a, b, c)
    (append_assoc (front ++ ((48 + n % 1000 / 100) ∷ [])) ((48 + n % 1000 % 100 / 10) ∷ []) ((48 + n % 1000 % 100 % 10) ∷ [])
    ∙ append_assoc front ((48 + n % 1000 / 100) ∷ []) ((48 + n % 1000 % 100 / 10) ∷ (48 + n % 1000 % 100 % 10) ∷ []))

-- bytes put one behind the other
pub puts_two : (x y : ℕ) (line : List ℕ) (n i k : ℕ) → n + 1 < length line → i ≡ n + 1 → k ≡ n + 2 → Puts (x ∷ y ∷ []) line n (set (set line n x) i y) k
puts_two x y line n i k room ei ek =
    puts_both (x ∷ []) (y ∷ []) line n (set line n x) i (set (set line n x) i y) k (puts_one x line n i (omega arith) ei)
    (puts_one y (set line n x) i k (omega (arith, length-set line n x)) (omega arith))

pub puts_three : (x y z : ℕ) (line : List ℕ) (n i j k : ℕ) → n + 2 < length line → i ≡ n + 1 → j ≡ n + 2 → k ≡ n + 3 →
    Puts (x ∷ y ∷ z ∷ []) line n (set (set (set line n x) i y) j z) k
puts_three x y z line n i j k room ei ej ek =
    let l₂ = set (set line n x) i y in
    puts_both (x ∷ y ∷ []) (z ∷ []) line n l₂ j (set l₂ j z) k (puts_two x y line n i j (omega arith) ei ej)
    (puts_one z l₂ j k (omega (arith, length-set line n x, length-set (set line n x) i y)) (omega arith))

-- how many tens and hundreds there are to see: one or none
pub byte_below : (k n : ℕ) → n < k → from_bool (leb k n) ≡ 0
byte_below k n h = ap from_bool (lt-leb k n h)

pub byte_from : (k n : ℕ) → k ≤ n → from_bool (leb k n) ≡ 1
byte_from k n h = ap from_bool (le-leb k n h)

pub byte_small : (k n : ℕ) → from_bool (leb k n) ≤ 1
byte_small k n =
    ⊎_elim (λ (l : n < k). omega (arith, byte_below k n l)) (λ (h : k ≤ n). omega (arith, byte_from k n h)) (cases_lt n k)

-- a number below 1,000 has a digit, one more from ten on, and one more from a hundred on
pub short_long : (n : ℕ) → n < 1000 → length (decimal n) ≡ 1 + from_bool (leb 100 n) + from_bool (leb 10 n)
short_long n small =
    ⊎_elim
    (λ (l : n < 10). omega (arith, ap length (decimal_digit n l), byte_below 100 n (omega arith), byte_below 10 n l))
    (λ (m : 10 ≤ n).
    ⊎_elim
    (λ (l : n < 100). omega (arith, ap length (decimal_two n m l), byte_below 100 n l, byte_from 10 n m))
    (λ (k : 100 ≤ n). omega (arith, ap length (decimal_three n k small), byte_from 100 n k, byte_from 10 n m))
    (cases_lt n 100))
    (cases_lt n 10)

-- and any number has as many as its thousands have, and three
pub any_long : (n : ℕ) → n < 65536 →
    length (decimal n) ≡ 1 + from_bool (leb 10 n) + from_bool (leb 100 n) + from_bool (leb 1000 n) + from_bool (leb 10000 n)
any_long n fits =
    ⊎_elim
    (λ (l : n < 1000). omega (arith, short_long n l, byte_below 1000 n l, byte_below 10000 n (omega arith)))
    (λ (m : 1000 ≤ n).
    let q = n / 1000 in
    let long : length (decimal n) ≡ length (decimal q) + 3 =
    ap length (decimal_long n m (omega arith)) ∙ length-append (decimal q) (three_digits (n % 1000)) in
    let short = short_long q (omega arith) in
    let none = byte_below 100 q (omega arith) in
    ⊎_elim
    (λ (l : n < 10000). omega (arith, byte_below 10 q (omega arith), byte_from 10 n (omega arith), byte_from 100 n (omega arith), byte_from 1000 n m, byte_below 10000 n l))
    (λ (k : 10000 ≤ n). omega (arith, byte_from 10 q (omega arith), byte_from 10 n (omega arith), byte_from 100 n (omega arith), byte_from 1000 n m, byte_from 10000 n k))
    (cases_lt n 10000))
    (cases_lt n 1000)

-- the digits of a number below 1,000, put where they belong or where the next one is put over them
pub puts_short : (n x y z : ℕ) (line : List ℕ) (begin i j : ℕ) → n < 1000 → x ≡ 48 + n / 100 → y ≡ 48 + n % 100 / 10 → z ≡ 48 + n % 100 % 10 →
    i ≡ begin + from_bool (leb 100 n) → j ≡ i + from_bool (leb 10 n) → begin + length (decimal n) ≤ length line →
    Puts (decimal n) line begin (set (set (set line begin x) i y) j z) (j + 1)
puts_short n x y z line begin i j small ex ey ez ei ej room =
    let all = set (set (set line begin x) i y) j z in
    ⊎_elim
    (λ (l : n < 10).
    let i-is : i ≡ begin = omega (arith, byte_below 100 n (omega arith)) in
    let j-is : j ≡ begin = omega (arith, byte_below 10 n l) in
    let digit : z ∷ [] ≡ decimal n = ap (λ d. d ∷ []) (let e : z ≡ 48 + n = omega arith in e) ∙ sym (decimal_digit n l) in
    let over : all ≡ set line begin z =
    ap (λ k. set (set (set line begin x) k y) j z) i-is ∙ ap (λ k. set (set (set line begin x) begin y) k z) j-is ∙ ap (λ w. set w begin z) (set-set line begin x y) ∙ set-set line begin y z in
    puts_like (z ∷ []) (decimal n) line begin all (j + 1) digit
    (puts_to (z ∷ []) line begin all (set line begin z) (j + 1) over (puts_one z line begin (j + 1) (omega (arith, ap length digit)) (omega arith))))
    (λ (m : 10 ≤ n).
    let one = byte_from 10 n m in
    ⊎_elim
    (λ (l : n < 100).
    let i-is : i ≡ begin = omega (arith, byte_below 100 n l) in
    let digits : y ∷ z ∷ [] ≡ decimal n =
    ap (λ d. d ∷ z ∷ []) (let e : y ≡ 48 + n / 10 = omega arith in e) ∙ ap (λ d. (48 + n / 10) ∷ d ∷ []) (let e : z ≡ 48 + n % 10 = omega arith in e) ∙ sym (decimal_two n m l) in
    let over : all ≡ set (set line begin y) j z =
    ap (λ k. set (set (set line begin x) k y) j z) i-is ∙ ap (λ w. set w j z) (set-set line begin x y) in
    puts_like (y ∷ z ∷ []) (decimal n) line begin all (j + 1) digits
    (puts_to (y ∷ z ∷ []) line begin all (set (set line begin y) j z) (j + 1) over (puts_two y z line begin j (j + 1) (omega (arith, ap length digits)) (omega arith) (omega arith))))
    (λ (h : 100 ≤ n).
    let i-is : i ≡ begin + 1 = omega (arith, byte_from 100 n h) in
    let digits : x ∷ y ∷ z ∷ [] ≡ decimal n =
    ap (λ d. d ∷ y ∷ z ∷ []) ex ∙ ap (λ d. (48 + n / 100) ∷ d ∷ z ∷ []) ey ∙ ap (λ d. (48 + n / 100) ∷ (48 + n % 100 / 10) ∷ d ∷ []) ez ∙ sym (decimal_three n h small) in
    puts_like (x ∷ y ∷ z ∷ []) (decimal n) line begin all (j + 1) digits
    (puts_three x y z line begin i j (j + 1) (omega (arith, ap length digits)) i-is (omega arith) (omega arith)))
    (cases_lt n 100))
    (cases_lt n 10)
