-- Bytes put into a line, one part behind the other.
use Rattle.std.proofs.Common.{◌≡◌, ℕ, ◌+◌, ◌<◌, List, [], ◌∷◌, ◌++◌, length, take, set, sym, ap, ◌∙◌, subst, append_assoc, arith, length-append}
use Rattle.std.proofs.lemmas.List.{take_more_set, take_all}
use Rattle.std.proofs.Math.Seq.{take-append_seam}
use Rattle.lines.specs.Lines.{Puts}

pub puts_one : (x : ℕ) (line : List ℕ) (n k : ℕ) → n < length line → k ≡ n + 1 → Puts (x ∷ []) line n (set line n x) k
puts_one x line n k h e = record { ends = e; front = ap (λ z. take z (set line n x)) e ∙ take_more_set line n x h }

pub puts_both : (a b line : List ℕ) (n : ℕ) (l₁ : List ℕ) (n₁ : ℕ) (l₂ : List ℕ) (n₂ : ℕ) →
    Puts a line n l₁ n₁ → Puts b l₁ n₁ l₂ n₂ → Puts (a ++ b) line n l₂ n₂
puts_both a b line n l₁ n₁ l₂ n₂ first second = record {
  ends = omega (arith, first.ends, second.ends, length-append a b);
  front = second.front ∙ ap (λ z. z ++ b) first.front ∙ append_assoc (take n line) a b;
}

pub puts_like : (a b line : List ℕ) (n : ℕ) (l' : List ℕ) (n' : ℕ) → a ≡ b → Puts a line n l' n' → Puts b line n l' n'
puts_like a b line n l' n' e h = let P : List ℕ → Type 0 = λ z. Puts z line n l' n' in subst P e h

-- the same change, said of an equal line
pub puts_to : (bytes line : List ℕ) (n : ℕ) (l' l'' : List ℕ) (n' : ℕ) → l' ≡ l'' → Puts bytes line n l'' n' → Puts bytes line n l' n'
puts_to bytes line n l' l'' n' e h = let P : List ℕ → Type 0 = λ z. Puts bytes line n z n' in subst P (sym e) h

-- bytes that take the place of those at the front
pub puts_front : (bytes line front behind : List ℕ) → front ≡ bytes → Puts bytes line 0 (front ++ behind) (length bytes)
puts_front bytes line front behind e =
    puts_to bytes line 0 (front ++ behind) (bytes ++ behind) (length bytes) (ap (λ z. z ++ behind) e) record {
      ends = omega arith;
      front = take-append_seam bytes behind;
    }

-- a line that is full of these bytes
pub puts_all : (bytes line line' : List ℕ) (n : ℕ) → Puts bytes line 0 line' n → length line' ≡ length bytes → line' ≡ bytes
puts_all bytes line line' n p full = sym (take_all n line' (omega (arith, p.ends))) ∙ p.front
