use Rattle.sets.proofs.FlagLaws.{has_union}
use Rattle.sets.proofs.place_set.PlaceSet.union.Goals as goal

pub returns : goal.returns
returns c = rw (← c.self.view_is, ← c.other.view_is) (has_union c.self.inside.word c.other.inside.word)
