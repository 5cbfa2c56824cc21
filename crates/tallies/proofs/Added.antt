-- A row to which a loop adds at the places of a set.
use Rattle.std.proofs.Common.{◌≡◌, ℕ, ◌+◌, ◌<◌, Bool, true, false, ◌||◌, cond, eqb, List, length, set, refl, sym, ap, ◌∙◌, inl, inr, arith, length-set}
use Rattle.std.proofs.lemmas.Bool.{cases_eq, eq-eqb, ne_eqb, or_right, cond-true, cond-false, cond_both}
use Rattle.std.proofs.lemmas.Grind.{get_or-set_at}
use Rattle.std.proofs.lemmas.List.{get_or-set_other}
use Rattle.std.proofs.Math.Bool.{or-false}
use Rattle.theory.specs.Rows.{at}

-- at the places that are done so much is added to what was there
pub record Added (old more : ℕ → ℕ) (done : ℕ → Bool) (row : List ℕ) : Type 0 where
  pub long : length row ≡ 64
  pub each : (p : ℕ) → at row p ≡ old p + cond (done p) (more p) 0

-- nothing yet
pub added_none : (old more : ℕ → ℕ) (done : ℕ → Bool) (row : List ℕ) → length row ≡ 64 → ((p : ℕ) → done p ≡ false) → ((p : ℕ) → at row p ≡ old p) → Added old more done row
added_none old more done row long none same = record {
  long = long;
  each = λ p. omega (arith, same p, cond-false (done p) (more p) 0 (none p));
}

-- one place more
pub added_more : (old more : ℕ → ℕ) (done : ℕ → Bool) (row : List ℕ) → Added old more done row →
    (place i v : ℕ) (done' : ℕ → Bool) → place < 64 → i ≡ place → done place ≡ false → v ≡ at row i + more place →
    ((p : ℕ) → done' p ≡ (done p || eqb p place)) →
    Added old more done' (set row i v)
added_more old more done row h place i v done' l there new gives with_place = record {
  long = length-set row i v ∙ h.long;
  each = λ p. elim (cases_eq p place) [
    | inl e ↦
        let now : done' p ≡ true = with_place p ∙ or_right (done p) (eqb p place) (eq-eqb p place e) in
        omega (
          arith,
          get_or-set_at row i p v 0 (e ∙ sym there) (omega (arith, h.long, l, there)),
          gives,
          ap (at row) (there ∙ sym e),
          ap more e,
          ap old e,
          h.each p,
          cond-false (done p) (more p) 0 (ap done e ∙ new),
          cond-true (done' p) (more p) 0 now,
        )
    | inr d ↦
        get_or-set_other row i p v 0 (λ f. d (f ∙ there)) ∙ h.each p
        ∙ ap (λ (b : Bool). old p + cond b (more p) 0) (sym (with_place p ∙ ap (λ (b : Bool). done p || b) (ne_eqb p place d) ∙ or-false (done p)))
  ];
}

-- all is added, where nothing more is to be added at the places that are left
pub added_all : (old more : ℕ → ℕ) (done : ℕ → Bool) (row : List ℕ) → Added old more done row → ((p : ℕ) → done p ≡ false → more p ≡ 0) → (p : ℕ) → at row p ≡ old p + more p
added_all old more done row h rest p =
    h.each p ∙ cond_both (done p) (more p) 0 (λ v. old p + v ≡ old p + more p) (λ e. refl) (λ e. ap (λ v. old p + v) (sym (rest p e)))
