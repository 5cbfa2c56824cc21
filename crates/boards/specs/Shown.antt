-- What a count board shows of itself.
use Rattle.std.specs.Prelude.{ℕ, List}
use Rattle.boards.specs.declared.count_board.CountBoard.{CountBoard}

-- its 64 counts, from place 0 up
abbrev pub count_row : CountBoard → List ℕ
count_row b = b.counts

-- how many more blocks may be put down on it
abbrev pub spare_of : CountBoard → ℕ
spare_of b = b.spare
