use Rattle.std.proofs.Common.{◌≡◌, ◌/◌, ◌%◌, ◌<◌, ◌^◌, ap, sym, ◌∙◌, inl, inr, ℕ, eqb, bit_and, arith}
use Rattle.std.proofs.lemmas.Bool.{cases_lt, lt-ltb, le-ltb, eq-eqb, ne_eqb}
use Rattle.std.proofs.lemmas.Nat.Bits.{shr_and_one}
use Rattle.sets.specs.Flags.{has}
use Rattle.sets.proofs.FlagLaws.{has_above}
use Rattle.sets.proofs.place_set.PlaceSet.contains.Goals as goal

-- the flag at the last bits of a place inside is that of the place
flag_inside : (w p : ℕ) → p < 64 → eqb (bit_and (w / 2 ^ (p % 64)) 1) 1 ≡ has w p
unfolding has
flag_inside w p l =
    let last : p % 64 ≡ p = omega arith in
    ap (λ (k : ℕ). eqb (bit_and (w / 2 ^ k) 1) 1) last ∙ ap (λ (d : ℕ). eqb d 1) (shr_and_one w p)

pub returns-then-self-place-eq1 : goal.returns-then-self-place-eq1
returns-then-self-place-eq1 c =
    let w : ℕ = c.self.inside.word in
    let p : ℕ = c.args.place in
    let l : w < 2 ^ 64 = omega arith in
    rw (← c.self.view_is)
    (elim (cases_lt p 64) [
      | inl inside ↦ lt-ltb p 64 inside ∙ sym (sym (flag_inside w p inside) ∙ eq-eqb (bit_and (w / 2 ^ (p % 64)) 1) 1 c.if-self-place-eq1.true)
      | inr above ↦ le-ltb p 64 above ∙ sym (has_above w 64 p l above)
    ])

pub returns-else-self-place-eq1 : goal.returns-else-self-place-eq1
returns-else-self-place-eq1 c =
    let w : ℕ = c.self.inside.word in
    let p : ℕ = c.args.place in
    let l : w < 2 ^ 64 = omega arith in
    rw (← c.self.view_is)
    (elim (cases_lt p 64) [
      | inl inside ↦ flag_inside w p inside
      | inr above ↦ ne_eqb (bit_and (w / 2 ^ (p % 64)) 1) 1 c.if-self-place-eq1.false ∙ sym (has_above w 64 p l above)
    ])
