use Rattle.std.proofs.Common.{◌≡◌, ℕ, map, drop}
use Rattle.comparisons.specs.Digests.{after_numbers}
use Rattle.comparisons.proofs.digest.Digest.add_all.Given as goal

abbrev pub invariant-loop-number : goal.invariant-loop-number
invariant-loop-number g l = (n : _) → ((t : _) (k : ℕ) → g.T.Into.converts t k → k ≡ n t) → after_numbers l.self.value (map n (drop l.number-index l.numbers)) ≡ after_numbers l.initial.self.value (map n l.numbers)
