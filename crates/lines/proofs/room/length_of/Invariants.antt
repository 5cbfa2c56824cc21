use Rattle.std.proofs.Common.{◌≡◌, ℕ, ◌*◌, ◌≤◌, length, take}
use Rattle.lines.specs.Lines.{numbers}
use Rattle.lines.proofs.room.length_of.Given as goal

-- the length of so many, six bytes at most for each
pub record Counted (index length_so_far length_of_all : ℕ) : Type 0 where
  pub value : length_so_far ≡ length_of_all
  pub small : length_so_far ≤ 6 * index

abbrev pub invariant-loop-number : goal.invariant-loop-number
invariant-loop-number l = Counted l.number-index l.length (length (numbers (take l.number-index l.part)))
