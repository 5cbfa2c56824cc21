use Rattle.std.specs.Prelude.{ℕ, ◌+◌, Bool, min, if◌then◌else◌}
use Rattle.std.specs.Ordering.{nat_cmp}
use Rattle.std.specs.BTreeMap.{BTreeMap, get}
use Rattle.std.specs.Option.{unwrap_or}

-- a count that rises by one, and stops at the greatest number
abbrev pub one_more : ℕ → ℕ
one_more count = min (count + 1) 4294967295

-- the same where the fact holds
abbrev pub counted : Bool → ℕ → ℕ
counted holds count = (if holds then one_more count else count)

-- the count of a number, and 0 for one that is not listed
abbrev pub count_at : BTreeMap ℕ ℕ → ℕ → ℕ
count_at counts number = unwrap_or (get nat_cmp counts number) 0
