-- A survey lists a finding exactly where there is one, in its group and by rising place.
use Rattle.std.proofs.Common.{◌≡◌, ℕ, zero, suc, ◌+◌, ◌<◌, ◌≤◌, Bool, true, false, cond, ◌⊎◌, List, [], ◌∷◌, ◌++◌, map, length, pos, ◌-ℤ◌, Some, None, Decides, sym, refl, ap, ◌∙◌, subst, ap₂, inl, inr, arith}
use Rattle.std.proofs.lemmas.Bool.{cases_eq, both_ways}
use Rattle.std.proofs.lemmas.Int.{ints}
use Rattle.std.specs.Option.{option_to_list}
use Rattle.theory.specs.Nets.{NetMeaning, NetLaw}
use Rattle.theory.specs.Firing.{Marking}
use Rattle.theory.specs.Rows.{at, found_below}
use Rattle.theory.specs.Tallies.{Tally, final_number, IsCutOff}
use Rattle.theory.specs.Tallies as theory
use Rattle.theory.specs.Tests.{is_short, is_cut_off}
use Rattle.theory.proofs.Decided.{short_decided, cut_off_decided}
use Rattle.answers.specs.declared.Finding.{Finding}
use Rattle.answers.specs.States.{Target, findings_needed}
use Rattle.answers.specs.Answers.{is_missed}
use Rattle.answers.specs.Findings.{short_finding, cut_off_finding, missed_finding, finding_at, findings}
use Rattle.answers.specs.Reasons.{Exactly, AllFound, FinalMisses}
use Rattle.answers.proofs.Rising.{Among, Rising, among_contains, contains_among, rising_strictly}
use Rattle.answers.proofs.Missed.{final_missed_decided}

-- one more number at the end of a list, or none
abbrev and_last : Bool → ℕ → List ℕ
and_last b n = cond b (n ∷ []) []

-- the numbers below n that pass the test, by rising number
abbrev passing : (ℕ → Bool) → ℕ → List ℕ
passing b zero = []
passing b (suc n) = passing b n ++ and_last (b n) n

map_both : (f : ℕ → Finding) (ps qs : List ℕ) → map f (ps ++ qs) ≡ map f ps ++ map f qs
map_both f [] qs = refl
map_both f (a ∷ rest) qs = ap (λ (l : List Finding). f a ∷ l) (map_both f rest qs)

last_mapped : (c : Bool) (f : ℕ → Finding) (n : ℕ) → option_to_list (cond c (Some (f n)) None) ≡ map f (and_last c n)
last_mapped true f n = refl
last_mapped false f n = refl

found_is : (b : ℕ → Bool) (f : ℕ → Finding) (n : ℕ) → found_below (finding_at b f) n ≡ map f (passing b n)
found_is b f zero = refl
found_is b f (suc n) =
    ap₂ ◌++◌ (found_is b f n) (last_mapped (b n) f n) ∙ sym (map_both f (passing b n) (and_last (b n) n))

-- ONE MORE NUMBER AT THE END

among_front : (p : ℕ) (ps qs : List ℕ) → Among p ps → Among p (ps ++ qs)
among_front p [] qs a = absurd a
among_front p (q ∷ ps) qs (inl e) = inl e
among_front p (q ∷ ps) qs (inr a) = inr (among_front p ps qs a)

among_end : (p : ℕ) (ps qs : List ℕ) → Among p qs → Among p (ps ++ qs)
among_end p [] qs a = a
among_end p (q ∷ ps) qs a = inr (among_end p ps qs a)

among_parts : (p : ℕ) (ps qs : List ℕ) → Among p (ps ++ qs) → Among p ps ⊎ Among p qs
among_parts p [] qs a = inr a
among_parts p (q ∷ ps) qs (inl e) = inl (inl e)
among_parts p (q ∷ ps) qs (inr a) =
    elim (among_parts p ps qs a) [
      | inl h ↦ inl (inr h)
      | inr h ↦ inr h
    ]

-- the last one, if the test lets it in
among_last : (c : Bool) (p n : ℕ) → Among p (and_last c n) → (p ≡ n) × (c ≡ true)
among_last true p n (inl e) = (e, refl)
among_last true p n (inr a) = absurd a
among_last false p n a = absurd a

last_among : (c : Bool) (n : ℕ) → c ≡ true → Among n (and_last c n)
last_among true n e = inl refl
last_among false n e = absurd (both_ways false refl e)

rising_last : (ps : List ℕ) (c : Bool) (n : ℕ) → Rising ps → ((q : ℕ) → Among q ps → q < n) → Rising (ps ++ and_last c n)
rising_last [] true n r low = (λ q a. absurd a, tt)
rising_last [] false n r low = tt
rising_last (p ∷ ps) c n r low = (
  λ q a. elim (among_parts q ps (and_last c n) a) [
    | inl h ↦ r.0 q h
    | inr h ↦ omega (arith, (among_last c q n h).0, low p (inl refl))
  ],
  rising_last ps c n r.1 (λ q a. low q (inr a)),
)

-- THE NUMBERS THAT PASS

passing_below : (b : ℕ → Bool) (n p : ℕ) → Among p (passing b n) → (p < n) × (b p ≡ true)
passing_below b zero p a = absurd a
passing_below b (suc n) p a =
    elim (among_parts p (passing b n) (and_last (b n) n) a) [
      | inl h ↦ let i = passing_below b n p h in (omega arith, i.1)
      | inr h ↦
          let i = among_last (b n) p n h in
          (omega (arith, i.0), subst (λ (k : ℕ). b k ≡ true) (sym i.0) i.1)
    ]

below_passing : (b : ℕ → Bool) (n p : ℕ) → p < n → b p ≡ true → Among p (passing b n)
below_passing b zero p l e = absurd (omega arith)
below_passing b (suc n) p l e =
    elim (cases_eq p n) [
      | inl s ↦
          among_end p (passing b n) (and_last (b n) n)
          (subst (λ (k : ℕ). Among k (and_last (b n) n)) (sym s) (last_among (b n) n (subst (λ (k : ℕ). b k ≡ true) s e)))
      | inr d ↦ among_front p (passing b n) (and_last (b n) n) (below_passing b n p (omega arith) e)
    ]

passing_rising : (b : ℕ → Bool) (n : ℕ) → Rising (passing b n)
passing_rising b zero = tt
passing_rising b (suc n) =
    rising_last (passing b n) (b n) n (passing_rising b n) (λ q a. (passing_below b n q a).0)

exactly : (b : ℕ → Bool) (P : ℕ → Type 0) (n : ℕ) → ((k : ℕ) → k < n → Decides (b k) (P k)) → Exactly n P (passing b n)
exactly b P n decides = record {
  rising = rising_strictly (passing b n) (passing_rising b n);
  exact = λ p. (
    λ a. let i = passing_below b n p (contains_among p (passing b n) a) in (i.0, (decides p i.0).0 i.1),
    λ h. among_contains p (passing b n) (below_passing b n p h.0 ((decides p h.0).1 h.1)),
  );
}

-- THE FINDINGS

length_both : (ps qs : List Finding) → length (ps ++ qs) ≡ length ps + length qs
length_both [] qs = omega arith
length_both (a ∷ rest) qs = omega (arith, length_both rest qs)

last_short : (c : Bool) (x : Finding) → length (option_to_list (cond c (Some x) None)) ≤ 1
last_short true x = omega arith
last_short false x = omega arith

found_short : (b : ℕ → Bool) (f : ℕ → Finding) (n : ℕ) → length (found_below (finding_at b f) n) ≤ n
found_short b f zero = omega arith
found_short b f (suc n) =
    omega (arith, length_both (found_below (finding_at b f) n) (option_to_list (finding_at b f n)), found_short b f n, last_short (b n) (f n))

module _ (N : NetMeaning) (law : NetLaw N) (m : Marking) (x : Tally) (target : Target) where
  pub finds_all : target.kind < 2 → AllFound N m x target (findings N m x target)
  finds_all known = record {
    short_places = passing (is_short N m x) N.places;
    cut_off_places = passing (is_cut_off N m x) N.places;
    missed_places = passing (is_missed N m x target) N.places;
    all_short = exactly (is_short N m x) (theory.IsShort N m x) N.places (λ p _. short_decided N m x p);
    all_cut_off = exactly (is_cut_off N m x) (IsCutOff N m x) N.places (cut_off_decided N law.inputs_inside m x);
    all_missed = exactly (is_missed N m x target) (FinalMisses N m x target) N.places
        (λ p _. final_missed_decided N m x target p known);
    missed_number = λ p. final_number N m x p -ℤ pos (at target.numbers p);
    with_the_target = λ p. omega (arith, ints);
    listed = ap₂ ◌++◌ (found_is (is_short N m x) (short_finding N m x) N.places)
        (ap₂ ◌++◌ (found_is (is_cut_off N m x) cut_off_finding N.places)
        (found_is (is_missed N m x target) (missed_finding N m x target) N.places));
  }

  pub few_findings : length (findings N m x target) ≤ findings_needed
  few_findings =
      let shorts : List Finding = found_below (finding_at (is_short N m x) (short_finding N m x)) N.places in
      let cut_offs : List Finding = found_below (finding_at (is_cut_off N m x) cut_off_finding) N.places in
      let misses : List Finding = found_below (finding_at (is_missed N m x target) (missed_finding N m x target)) N.places in
      omega (
        arith,
        length_both shorts (cut_offs ++ misses),
        length_both cut_offs misses,
        found_short (is_short N m x) (short_finding N m x) N.places,
        found_short (is_cut_off N m x) cut_off_finding N.places,
        found_short (is_missed N m x target) (missed_finding N m x target) N.places,
        law.few_places,
      )
