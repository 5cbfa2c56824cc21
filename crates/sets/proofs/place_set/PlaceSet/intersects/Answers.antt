use Rattle.std.proofs.Common.{arith, w64}
use Rattle.sets.proofs.FlagLaws.{and_meets}
use Rattle.sets.proofs.place_set.PlaceSet.intersects.Goals as goal

pub returns : goal.returns
returns c = rw (← c.self.view_is, ← c.other.view_is) (and_meets w64 c.self.inside.word c.other.inside.word (omega arith))
