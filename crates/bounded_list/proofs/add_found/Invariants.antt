use Rattle.std.proofs.Common.{◌≡◌, ℕ, ◌<◌, ◌++◌, take, Option}
use Rattle.theory.specs.Rows.{found_below}
use Rattle.bounded_list.proofs.Written.{Written}
use Rattle.bounded_list.proofs.add_found.Given as goal

-- what is found at the numbers so far is added
abbrev pub invariant-loop-number : goal.invariant-loop-number
invariant-loop-number g l =
    (l.list.memory.ghost_name ≡ l.initial.list.memory.ghost_name)
    × ((at : ℕ → Option _) → ((k : ℕ) (r : Option _) → k < l.end → goal.F-post g l.find k r → r ≡ at k) → Written l.initial.list.memory.now (take l.initial.list.len l.initial.list.memory.now ++ found_below at l.number) l.list.memory.now l.list.len)
