-- Takes and puts that are accepted, and what the puts of a step add up to.
use Rattle.std.proofs.Common.{◌≡◌, ℕ, ◌+◌, ◌<◌, ◌≤◌, Bool, false, ◌||◌, cond, eqb, ltb, Ok, Err, Result, sym, refl, ap, ◌∙◌, ⊎_elim, arith}
use Rattle.std.proofs.lemmas.Bool.{cases_eq, eq-eqb, ne_eqb, ltb-false, or_right, cond-true, cond-false, cond_both}
use Rattle.std.proofs.Math.Bool.{or-false}
use Rattle.refusals.specs.declared.Refusal.{Refusal}
use Rattle.theory.specs.Firing.{only_at}
use Rattle.boards.specs.Boards.{PutSays, Put, TakeSays, Taken}
use Rattle.theory.specs.Sums.{sum_to}
use Rattle.theory.proofs.SumLaws.{sum_to_none, sum_to_same, sum_to_change, sum_to_mono}

-- a put within spare is accepted
pub put_accepted : {X : Type 0} (place n : ℕ) (h : ℕ → ℕ) (s : ℕ) (r : Result X Refusal) (h' : ℕ → ℕ) (s' : ℕ) → place ≤ 63 → n ≤ s → PutSays place n h s r h' s' → Put place n h s h' s'
put_accepted place n h s (Ok x) h' s' l m e = e
put_accepted place n h s (Err y) h' s' l m e = absurd (⊎_elim (λ a. omega (arith, a.0)) (λ a. omega (arith, a.1)) e.0)

-- a take at a place with a block is accepted
pub take_accepted : {X : Type 0} (place : ℕ) (h : ℕ → ℕ) (s : ℕ) (r : Result X Refusal) (h' : ℕ → ℕ) (s' : ℕ) → place ≤ 63 → 0 < h place → TakeSays place h s r h' s' → Taken place h s h' s'
take_accepted place h s (Ok x) h' s' l m e = e
take_accepted place h s (Err y) h' s' l m e = absurd (⊎_elim (λ a. omega (arith, a.0)) (λ a. omega (arith, a.1)) e.0)

-- THE PUTS OF A STEP

-- what is yielded at the places that are done
abbrev pub yields_in : (done : ℕ → Bool) (Y : ℕ → ℕ) → ℕ → ℕ
yields_in done Y q = cond (done q) (Y q) 0

-- what the puts at these places have left
abbrev pub PutIn : (n : ℕ) (h₀ : ℕ → ℕ) (s₀ : ℕ) (Y : ℕ → ℕ) (done : ℕ → Bool) (h : ℕ → ℕ) (s : ℕ) → Type 0
PutIn n h₀ s₀ Y done h s = ((q : ℕ) → h q ≡ h₀ q + yields_in done Y q) × (s + sum_to (yields_in done Y) n ≡ s₀)

pub put_none : (n : ℕ) (h₀ : ℕ → ℕ) (s₀ : ℕ) (Y : ℕ → ℕ) (done : ℕ → Bool) → ((q : ℕ) → done q ≡ false) → PutIn n h₀ s₀ Y done h₀ s₀
put_none n h₀ s₀ Y done none =
    let nothing : (q : ℕ) → yields_in done Y q ≡ 0 = λ q. cond-false (done q) (Y q) 0 (none q) in
    (λ q. omega (arith, nothing q), omega (arith, sum_to_none (yields_in done Y) n (λ q l. nothing q)))

-- one place more is done
module _ (n : ℕ) (Y : ℕ → ℕ) (done done' : ℕ → Bool) (p : ℕ) (l : p < n) (new : done p ≡ false) (more : (q : ℕ) → done' q ≡ (done q || eqb q p)) where
  in_there : yields_in done' Y p ≡ Y p
  in_there = cond-true (done' p) (Y p) 0 (more p ∙ or_right (done p) (eqb p p) (eq-eqb p p refl))

  in_other : (q : ℕ) → (q ≡ p → ⊥) → yields_in done' Y q ≡ yields_in done Y q
  in_other q d =
      ap (λ (b : Bool). cond b (Y q) 0) (more q ∙ ap (λ (b : Bool). done q || b) (ne_eqb q p d) ∙ or-false (done q))

  sum_more : sum_to (yields_in done' Y) n ≡ sum_to (yields_in done Y) n + Y p
  sum_more =
      omega (arith, sum_to_change (yields_in done Y) (yields_in done' Y) n p l in_other, in_there, cond-false (done p) (Y p) 0 new)

  -- the puts that are left fit
  pub put_fits : (s₀ s : ℕ) → sum_to Y n ≤ s₀ → s + sum_to (yields_in done Y) n ≡ s₀ → Y p ≤ s
  put_fits s₀ s room inv =
      omega (arith, room, inv, sum_more, sum_to_mono (yields_in done' Y) Y n (λ q j. cond_both (done' q) (Y q) 0 (λ v. v ≤ Y q) (λ e. omega arith) (λ e. omega arith)))

  pub put_more : (h₀ : ℕ → ℕ) (s₀ : ℕ) (h : ℕ → ℕ) (s : ℕ) (h' : ℕ → ℕ) (s' : ℕ) → PutIn n h₀ s₀ Y done h s → ((q : ℕ) → h' q ≡ h q + only_at p q (Y p)) → s' + Y p ≡ s → PutIn n h₀ s₀ Y done' h' s'
  put_more h₀ s₀ h s h' s' inv d e = (
    λ q. ⊎_elim
        (λ (z : q ≡ p).
        omega (arith, inv.0 q, d q, ap Y z, ap (yields_in done' Y) z, ap (yields_in done Y) z, in_there, cond-false (done p) (Y p) 0 new, cond-true (eqb p q) (Y p) 0 (eq-eqb p q (sym z))))
        (λ (ne : q ≡ p → ⊥).
        omega (arith, inv.0 q, d q, in_other q ne, cond-false (eqb p q) (Y p) 0 (ne_eqb p q (λ z. ne (sym z)))))
        (cases_eq q p),
    omega (arith, inv.1, sum_more),
  )

-- all puts are done, where that is each place where something is yielded
pub put_all : (n : ℕ) (h₀ : ℕ → ℕ) (s₀ : ℕ) (Y : ℕ → ℕ) (done : ℕ → Bool) (h : ℕ → ℕ) (s : ℕ) → ((q : ℕ) → done q ≡ ltb 0 (Y q)) → PutIn n h₀ s₀ Y done h s →
    ((q : ℕ) → h q ≡ h₀ q + Y q) × (s + sum_to Y n ≡ s₀)
put_all n h₀ s₀ Y done h s each inv =
    let all : (q : ℕ) → yields_in done Y q ≡ Y q = λ q. cond_both (done q) (Y q) 0 (λ v. v ≡ Y q) (λ e. refl) (λ e. omega (arith, ltb-false 0 (Y q) (sym (each q) ∙ e))) in
    (λ q. omega (arith, inv.0 q, all q), omega (arith, inv.1, sum_to_same (yields_in done Y) Y n (λ q l. all q)))
