use Rattle.std.proofs.Common.{◌≡◌, ℕ, zero, suc, ◌+◌, eqb, replicate, Ok, refl, ap, arith, rules}
use Rattle.std.proofs.lemmas.Bool.{ne_eqb, cond-false}
use Rattle.slot_board.specs.Slots.{occurs}
use Rattle.handover.proofs.piles.first_board.Goals as goal

-- empty slots hold no place
none_held : (n p : ℕ) → occurs (p + 1) (replicate n 0) ≡ 0
unfolding occurs
none_held zero p = refl
none_held (suc n) p = omega (arith, none_held n p, cond-false {A = ℕ} (eqb 0 (p + 1)) 1 0 (ne_eqb 0 (p + 1) (λ e. omega (arith, e))))

pub returns : goal.returns
returns c p h =
    let laid : c.lay_out.result ≡ Ok tt = search rules in
    let shown = rw laid at c.lay_out.ensures in
    omega (arith, shown p h, ap (occurs (p + 1)) c.new-board.ensures.slots, none_held 4096 p)
