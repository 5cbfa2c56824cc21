use Rattle.std.proofs.Common.{◌≡◌, ℕ, get_or, replicate, refl, ⊎_elim, arith}
use lib.ListN.{length-replicate}
use Rattle.std.proofs.lemmas.List.{get_or-replicate, get_or_past}
use Rattle.std.proofs.lemmas.Bool.{cases_lt}
use Rattle.slot_board.proofs.Occurring.{occurs_zeros}
use Rattle.slot_board.proofs.SlotBoard.new.Goals as goal

zeros : (n k : ℕ) → ◌≡◌ {A = ℕ} (get_or (replicate n 0) k 0) 0
zeros n k =
    ⊎_elim (λ h. get_or-replicate n k 0 0 h) (λ h. get_or_past (replicate n 0) k 0 (omega (arith, length-replicate {A = ℕ} n 0))) (cases_lt k n)

pub invariant_of-result : goal.invariant_of-result
invariant_of-result c = record { fit = record { long = refl; small = λ k. omega (arith, zeros 4096 k) }; counted = omega (arith, occurs_zeros 4096) }
