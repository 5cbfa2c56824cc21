use Rattle.std.proofs.Common.{arith, w64}
use Rattle.sets.proofs.FlagLaws.{zero_empty}
use Rattle.sets.proofs.place_set.PlaceSet.is_empty.Goals as goal

pub returns : goal.returns
returns c = rw (← c.self.view_is) (zero_empty w64 c.self.inside.word (omega arith))
