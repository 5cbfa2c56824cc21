-- What `all` over the numbers below a bound answers.
use Rattle.std.proofs.Common.{◌≡◌, ℕ, ◌<◌, ◌≤◌, Bool, length, Option, slice_index_or, true, false, not, refl, sym, ap, ◌∙◌, true≢false, arith}
use Rattle.std.specs.Bool.{MatchBool}
use Rattle.std.specs.Iterator.{ChecksAll}
use Rattle.std.specs.Fn.{Called}
use Rattle.std.specs.List.{range_with_len}
use Rattle.std.proofs.lemmas.Iterator.{cases_from_all, YieldsList}
use Rattle.std.proofs.lemmas.List.FromFn.{get_or-range_with_len, length-range_with_len}
use denote.Param.Members.{Mut}
use Rattle.theory.specs.Tests.{any_below}
use Rattle.theory.proofs.ReachRounds.{any_find, any_from}

-- where every number fails, none passes
none_passes : (b : ℕ → Bool) (n : ℕ) → ((k : ℕ) → k < n → b k ≡ false) → any_below b n ≡ false
none_passes b n h = not_true (any_below b n) (λ e. let some = any_find b n e in true≢false (sym some.2 ∙ h some.0 some.1))
  where
    not_true : (v : Bool) → (v ≡ true → ⊥) → v ≡ false
    not_true true f = absurd (f refl)
    not_true false f = refl

-- the number at an index of the numbers below n
number_at : (n k : ℕ) → k < n → slice_index_or (range_with_len 0 n) k 0 ≡ k
number_at n k l = omega (arith, get_or-range_with_len 0 n k 0 l)

-- the closure answers true where b fails, and false where it passes
pub all_fail : {F : Type 0} {g : Mut F (ℕ × Unit {0}) Bool} (b : ℕ → Bool) {S : Type 0} {steps : S → Option ℕ → S → Type 0} (n : ℕ) (s u : S) (f : F) (r : Bool) → YieldsList steps (λ x. x) s (range_with_len 0 n) → ChecksAll steps g s f r u → ((k : ℕ) (a : Bool) (q : F) → Called g f (k, tt) a q → (q ≡ f) × (b k ≡ not a)) → r ≡ not (any_below b n)
all_fail b n s u f r road ran gives = told r (cases_from_all u f r (λ k. b k ≡ false) (λ k. b k ≡ true) ran road (λ k q c. gives k true q c) (λ k q c. (gives k false q c).1))
  where
    told : (a : Bool) → MatchBool a ((k d : ℕ) → 0 ≤ k → k < length (range_with_len 0 n) → b (slice_index_or (range_with_len 0 n) k d) ≡ false) ((k : ℕ) × (k < length (range_with_len 0 n)) × ((d : ℕ) → b (slice_index_or (range_with_len 0 n) k d) ≡ true)) → a ≡ not (any_below b n)
    told true h = sym (ap not (none_passes b n (λ k l. ap b (sym (number_at n k l)) ∙ h k 0 (omega arith) (omega (arith, length-range_with_len 0 n)))))
    told false h = sym (ap not (any_from b h.0 n (omega (arith, h.1, length-range_with_len 0 n)) (ap b (sym (number_at n h.0 (omega (arith, h.1, length-range_with_len 0 n)))) ∙ h.2 0)))
