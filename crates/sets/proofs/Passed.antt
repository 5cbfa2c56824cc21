-- A loop over a set: which of the set were passed, where the rest is still to come.
use Rattle.std.proofs.Common.{◌≡◌, ℕ, Bool, true, false, not, ◌&&◌, ◌||◌, eqb, sym, refl, ap, ◌∙◌, subst, inl, inr}
use Rattle.std.proofs.lemmas.Bool.{cases_eq, eq-eqb, ne_eqb, and_parts}
use Rattle.theory.specs.Laws.{IsLeast}
use Rattle.sets.specs.Flags.{has}

and_all : (v : Bool) → (v && not false) ≡ v
and_all true = refl
and_all false = refl

or_nothing : (v : Bool) → (v || false) ≡ v
or_nothing true = refl
or_nothing false = refl

-- p is in the set and was passed
abbrev pub passed : ℕ → ℕ → ℕ → Bool
passed set rest p = has set p && not (has rest p)

module _ (n set rest rest' k : ℕ) (first : IsLeast (has rest) n k) (inside : (p : ℕ) → has rest p ≡ true → has set p ≡ true)
    (less : (p : ℕ) → has rest' p ≡ (has rest p && not (eqb p k))) where
  -- the rest is still of the set
  pub rest_inside : (p : ℕ) → has rest' p ≡ true → has set p ≡ true
  rest_inside p e = inside p (and_parts (has rest p) (not (eqb p k)) (sym (less p) ∙ e)).0

  -- one more was passed
  pub one_passed : (p : ℕ) → passed set rest' p ≡ (passed set rest p || eqb p k)
  one_passed p = elim (cases_eq p k) [
    | inl e ↦
        subst (λ (q : ℕ). passed set rest' q ≡ (passed set rest q || eqb q k)) (sym e)
        (ap (λ (v : Bool). has set k && not v) (less k ∙ ap (λ (v : Bool). has rest k && not v) (eq-eqb k k refl) ∙ ap (λ (v : Bool). v && not true) first.passes)
        ∙ and_all (has set k) ∙ inside k first.passes ∙ or_there (passed set rest k) (eqb k k) (eq-eqb k k refl))
    | inr d ↦
        ap (λ (v : Bool). has set p && not v) (less p ∙ ap (λ (v : Bool). has rest p && not v) (ne_eqb p k d) ∙ and_all (has rest p))
        ∙ sym (or_nothing (passed set rest p)) ∙ ap (λ (v : Bool). passed set rest p || v) (sym (ne_eqb p k d))
  ]
    where
      or_there : (v w : Bool) → w ≡ true → true ≡ (v || w)
      or_there true w e = refl
      or_there false w e = sym e

-- the first of the rest was not passed
pub first_not_passed : (n set rest k : ℕ) → IsLeast (has rest) n k → passed set rest k ≡ false
first_not_passed n set rest k first = ap (λ (v : Bool). has set k && not v) first.passes ∙ none (has set k)
  where
    none : (v : Bool) → (v && not true) ≡ false
    none true = refl
    none false = refl

-- where nothing is left, all were passed
pub all_passed : (set rest p : ℕ) → has rest p ≡ false → passed set rest p ≡ has set p
all_passed set rest p e = ap (λ (v : Bool). has set p && not v) e ∙ and_all (has set p)

-- at first none was
pub none_passed : (set p : ℕ) → passed set set p ≡ false
none_passed set p = none (has set p)
  where
    none : (v : Bool) → (v && not v) ≡ false
    none true = refl
    none false = refl

-- what one turn adds, or takes out, where the number was not passed before
pub more_added : (had done here e : Bool) → ((had || (done && e)) || (here && e)) ≡ (had || ((done || here) && e))
more_added true done here e = refl
more_added false true here true = refl
more_added false true here false = ap (λ (v : Bool). v) (none here)
  where
    none : (v : Bool) → (v && false) ≡ false
    none true = refl
    none false = refl
more_added false false here e = refl

pub more_taken : (had done here e : Bool) → ((had && not (done && e)) && not (here && e)) ≡ (had && not ((done || here) && e))
more_taken true true here true = refl
more_taken true true here false = ap not (none here)
  where
    none : (v : Bool) → (v && false) ≡ false
    none true = refl
    none false = refl
more_taken true false here e = refl
more_taken false done here e = refl
