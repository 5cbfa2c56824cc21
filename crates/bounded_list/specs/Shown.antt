-- What a bounded list shows of itself.
use Rattle.std.specs.Prelude.{ℕ, List}
use Rattle.bounded_list.specs.declared.BoundedList.{BoundedList}

-- how many elements it has
abbrev pub len_of : {T : Type 0} → BoundedList T → ℕ
len_of list = list.len

-- the memory that it was lent, with its elements at the front
abbrev pub memory_of : {T : Type 0} → BoundedList T → List T
memory_of list = list.memory.now
