-- What stands in the way of a tally, from the least place of each cause.
use Rattle.std.proofs.Common.{◌≡◌, ℕ, ◌<◌, Bool, true, false, ◌&&◌, ltb, Some, None, Option, sym, ap, ◌∙◌, ⊎_elim, arith, MatchOption}
use Rattle.std.specs.Option.{option_or, option_map}
use Rattle.refusals.specs.Answered.{answered}
use Rattle.refusals.specs.declared.Refusal.{Refusal}
use Rattle.refusals.specs.declared.Refusal.TheVariants.{Short, CutOff, Missed}
use Rattle.std.proofs.lemmas.Bool.{and_parts, and_cases, both_ways, lt-ltb, ltb-true}
use Rattle.theory.specs.Tests.{least}
use Rattle.theory.proofs.Decided.{least_found, none_found}
use Rattle.theory.specs.Laws.{IsLeast}
use Rattle.sets.specs.Flags.{has, IsEmpty}

second_fails : (x y : Bool) → x ≡ true → (x && y) ≡ false → y ≡ false
second_fails x y h e = ⊎_elim (λ f. absurd (both_ways x f h)) (λ g. g) (and_cases x y e)

pub first_is_least : (b : ℕ → Bool) (n w : ℕ) → ((p : ℕ) → has w p ≡ (ltb p n && b p)) →
    (r : Option ℕ) → MatchOption r (IsEmpty w) (IsLeast (has w) 64) → r ≡ least b n
first_is_least b n w same None none =
    sym ((none_found b n).1 (λ k h. second_fails (ltb k n) (b k) (lt-ltb k n h) (sym (same k) ∙ none k)))
first_is_least b n w same (Some p) first =
    let parts = and_parts (ltb p n) (b p) (sym (same p) ∙ first.passes) in
    let inside : p < n = ltb-true p n parts.0 in
    sym ((least_found b n p).1 (record {
      inside = inside;
      passes = parts.1;
      least = λ q h. second_fails (ltb q n) (b q) (lt-ltb q n (omega arith)) (sym (same q) ∙ first.least q h);
    }))

-- the first cause of three places that may be there
abbrev pub first_cause : Option ℕ → Option ℕ → Option ℕ → Option Refusal
first_cause short cut_off missed = option_or (option_map Short short) (option_or (option_map CutOff cut_off) (option_map Missed missed))

-- the answer that the least places of the three causes make
pub same_answer : (a b c a' b' c' : Option ℕ) → a ≡ a' → b ≡ b' → c ≡ c' → answered {A = Unit {0}} (first_cause a b c) tt ≡ answered {A = Unit {0}} (first_cause a' b' c') tt
same_answer a b c a' b' c' e f g =
    ap (λ z. answered {A = Unit {0}} (first_cause z b c) tt) e ∙ ap (λ z. answered {A = Unit {0}} (first_cause a' z c) tt) f ∙ ap (λ z. answered {A = Unit {0}} (first_cause a' b' z) tt) g
