-- Checks in their order: what it says that none or a certain one was wrong.
use Rattle.std.proofs.Common.{◌≡◌, Bool, true, false, ◌⊎◌, List, [], ◌∷◌, Some, None, Option, sym, refl, ap, inl, inr}
use Rattle.std.specs.Option.{option_or, option_map}
use Rattle.std.proofs.lemmas.Bool.{both_ways}
use Rattle.refusals.specs.declared.Refusal.{Refusal}
use Rattle.theory.proofs.Decided.{some_none}
use Rattle.answers.specs.Answers.{first_wrong}

-- A LIST OF CHECKS

-- no check finds something wrong
abbrev pub AllRight : List (Bool × Refusal) → Type 0
AllRight [] = Unit {0}
AllRight (check ∷ checks) = (check.0 ≡ false) × AllRight checks

-- a check gives this refusal, and none before it finds something wrong
abbrev pub WrongFirst : List (Bool × Refusal) → Refusal → Type 0
WrongFirst [] e = ⊥
WrongFirst (check ∷ checks) e = ((check.0 ≡ true) × (check.1 ≡ e)) ⊎ ((check.0 ≡ false) × WrongFirst checks e)

pub all_right : (checks : List (Bool × Refusal)) → first_wrong checks ≡ None → AllRight checks
all_right [] h = tt
all_right ((true, e) ∷ checks) h = absurd (some_none e h)
all_right ((false, e) ∷ checks) h = (refl, all_right checks h)

pub right_none : (checks : List (Bool × Refusal)) → AllRight checks → first_wrong checks ≡ None
right_none [] h = refl
right_none ((true, e) ∷ checks) h = absurd (both_ways true h.0 refl)
right_none ((false, e) ∷ checks) h = right_none checks h.1

pub wrong_first : (checks : List (Bool × Refusal)) (d : Refusal) → first_wrong checks ≡ Some d → WrongFirst checks d
wrong_first [] d h = absurd (some_none d (sym h))
wrong_first ((true, e) ∷ checks) d h = inl (refl, cc)
wrong_first ((false, e) ∷ checks) d h = inr (refl, wrong_first checks d h)

pub wrong_some : (checks : List (Bool × Refusal)) (d : Refusal) → WrongFirst checks d → first_wrong checks ≡ Some d
wrong_some [] d h = absurd h
wrong_some ((true, e) ∷ checks) d (inl h) = ap Some h.1
wrong_some ((true, e) ∷ checks) d (inr h) = absurd (both_ways true h.0 refl)
wrong_some ((false, e) ∷ checks) d (inl h) = absurd (both_ways false refl h.0)
wrong_some ((false, e) ∷ checks) d (inr h) = wrong_some checks d h.1

-- ONE OPTION BEFORE ANOTHER

pub none_or : {A : Type 0} (a b : Option A) → option_or a b ≡ None → (a ≡ None) × (b ≡ None)
none_or None b h = (refl, h)
none_or (Some x) b h = absurd (some_none x h)

pub or_none : {A : Type 0} (a b : Option A) → a ≡ None → b ≡ None → option_or a b ≡ None
or_none None b z h = h
or_none (Some x) b z h = z

pub some_or : {A : Type 0} (a b : Option A) (d : A) → option_or a b ≡ Some d → (a ≡ Some d) ⊎ ((a ≡ None) × (b ≡ Some d))
some_or None b d h = inr (refl, h)
some_or (Some x) b d h = inl h

pub or_first : {A : Type 0} (a b : Option A) (d : A) → a ≡ Some d → option_or a b ≡ Some d
or_first None b d h = absurd (some_none d (sym h))
or_first (Some x) b d h = h

pub or_second : {A : Type 0} (a b : Option A) (d : A) → a ≡ None → b ≡ Some d → option_or a b ≡ Some d
or_second None b d z h = h
or_second (Some x) b d z h = absurd (some_none x z)

pub none_mapped : {A B : Type 0} (f : A → B) (o : Option A) → option_map f o ≡ None → o ≡ None
none_mapped f None h = refl
none_mapped f (Some x) h = absurd (some_none (f x) h)

pub some_mapped : {A B : Type 0} (f : A → B) (o : Option A) (d : B) → option_map f o ≡ Some d → (k : A) × (o ≡ Some k) × (f k ≡ d)
some_mapped f None d h = absurd (some_none d (sym h))
some_mapped f (Some k) d h = (k, refl, cc)
