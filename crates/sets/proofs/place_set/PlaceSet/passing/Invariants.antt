use Rattle.std.proofs.Common.{◌≡◌, ℕ, ◌<◌, Bool, ◌&&◌, ltb}
use Rattle.sets.specs.Flags.{has}
use Rattle.sets.proofs.place_set.PlaceSet.passing.Given as goal

abbrev pub invariant-loop-place : goal.invariant-loop-place
invariant-loop-place g l =
    (b : ℕ → Bool) → ((p : ℕ) (r : Bool) → p < l.end → goal.F-post g l.test p r → r ≡ b p) →
    (p : ℕ) → has l.places p ≡ (ltb p l.place && (ltb p 64 && b p))
