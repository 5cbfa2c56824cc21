-- What the test for a missed place decides, of the final number and of the marking after an order.
use Rattle.std.proofs.Common.{◌≡◌, ℕ, zero, suc, ◌+◌, ◌<◌, cond, not, eqb, ltb, ◌⊎◌, List, pos, ◌<ℤ◌, Decides, refl, inl, inr, arith}
use Rattle.std.proofs.lemmas.Bool.{cases_eq, cases_lt}
use Rattle.std.proofs.lemmas.Bool.Decides.{Decides-not, Decides-ltb, Decides-eqb, Decides-like}
use Rattle.std.proofs.lemmas.Int.{ints}
use Rattle.theory.specs.Nets.{NetMeaning}
use Rattle.theory.specs.Rows.{at}
use Rattle.theory.specs.Firing.{Marking, after}
use Rattle.theory.specs.Tallies.{Tally, spent, gained, final_number, Realizes}
use Rattle.theory.proofs.Realized.{leaves}
use Rattle.answers.specs.States.{Target}
use Rattle.answers.specs.Answers.{is_missed}
use Rattle.answers.specs.Reasons.{Misses, Meets, FinalMisses}

-- a number a that should be b, or at least b
abbrev Off : ℕ → ℕ → ℕ → Type 0
Off kind a b = ((kind ≡ 0) × (a ≡ b → ⊥)) ⊎ ((kind ≡ 1) × (a < b))

off_decided : (kind a b : ℕ) → kind < 2 → Decides (cond (eqb kind 0) (not (eqb a b)) (ltb a b)) (Off kind a b)
off_decided zero a b l =
    Decides-like (not (eqb a b)) (λ h. inl (refl, h)) (λ h. exact h) (Decides-not (eqb a b) (Decides-eqb a b))
  where
    exact : Off 0 a b → a ≡ b → ⊥
    exact (inl h) = h.1
    exact (inr h) = absurd (omega (arith, h.0))
off_decided (suc zero) a b l = Decides-like (ltb a b) (λ h. inr (refl, h)) (λ h. least h) (Decides-ltb a b)
  where
    least : Off 1 a b → a < b
    least (inl h) = absurd (omega (arith, h.0))
    least (inr h) = h.1
off_decided (suc (suc k)) a b l = absurd (omega arith)

module _ (N : NetMeaning) (m : Marking) (x : Tally) (target : Target) (p : ℕ) where
  abbrev has : ℕ
  has = m p + gained N x p

  abbrev needs : ℕ
  needs = at target.numbers p + spent N x p

  pub final_missed_decided : target.kind < 2 → Decides (is_missed N m x target p) (FinalMisses N m x target p)
  final_missed_decided l =
      Decides-like (is_missed N m x target p) to from (off_decided target.kind has needs l)
    where
      to : Off target.kind has needs → FinalMisses N m x target p
      to (inl h) = inl (h.0, λ e. h.1 (omega (arith, ints)))
      to (inr h) = let k : has < needs = h.1 in inr (h.0, grind (arith, ints))

      from : FinalMisses N m x target p → Off target.kind has needs
      from (inl h) = inl (h.0, λ e. h.1 (omega (arith, ints)))
      from (inr h) =
          let k : final_number N m x p <ℤ pos (at target.numbers p) = h.1 in
          inr (h.0, grind (arith, ints))

  pub missed_decided : target.kind < 2 → (order : List ℕ) → Realizes N m x order →
      Decides (is_missed N m x target p) (Misses target (after N m order) p)
  missed_decided l order r =
      Decides-like (is_missed N m x target p) to from (off_decided target.kind has needs l)
    where
      to : Off target.kind has needs → Misses target (after N m order) p
      to (inl h) = inl (h.0, λ e. h.1 (omega (arith, leaves N m x order r p)))
      to (inr h) = inr (h.0, omega (arith, h.1, leaves N m x order r p))

      from : Misses target (after N m order) p → Off target.kind has needs
      from (inl h) = inl (h.0, λ e. h.1 (omega (arith, leaves N m x order r p)))
      from (inr h) = inr (h.0, omega (arith, h.1, leaves N m x order r p))

-- a target is met exactly if it is missed nowhere
pub meets_from : (N : NetMeaning) (target : Target) (m : Marking) → target.kind < 2 →
    ((p : ℕ) → p < N.places → Misses target m p → ⊥) → Meets N target m
meets_from N target m l none = go target.kind refl l
  where
    go : (k : ℕ) → target.kind ≡ k → k < 2 → Meets N target m
    go zero e h = inl (
      e,
      λ p b. elim (cases_eq (m p) (at target.numbers p)) [
        | inl s ↦ s
        | inr d ↦ absurd (none p b (inl (e, d)))
      ],
    )
    go (suc zero) e h = inr (
      e,
      λ p b. elim (cases_lt (m p) (at target.numbers p)) [
        | inl d ↦ absurd (none p b (inr (e, d)))
        | inr s ↦ s
      ],
    )
    go (suc (suc k)) e h = absurd (omega arith)

pub meets_none : (N : NetMeaning) (target : Target) (m : Marking) → Meets N target m →
    (p : ℕ) → p < N.places → Misses target m p → ⊥
meets_none N target m (inl h) p l (inl d) = d.1 (h.1 p l)
meets_none N target m (inl h) p l (inr d) = omega (arith, h.0, d.0)
meets_none N target m (inr h) p l (inl d) = omega (arith, h.0, d.0)
meets_none N target m (inr h) p l (inr d) = omega (arith, h.1 p l, d.1)

pub meets_kind : (N : NetMeaning) (target : Target) (m : Marking) → Meets N target m → target.kind < 2
meets_kind N target m (inl h) = omega (arith, h.0)
meets_kind N target m (inr h) = omega (arith, h.0)
