use Rattle.sets.proofs.FlagLaws.{without_flag}
use Rattle.sets.proofs.place_set.PlaceSet.without.Goals as goal

pub returns : goal.returns
returns c p =
    without_flag 64 c.args.self c.with.result c.difference.result c.empty.result p c.args.place
    c.empty.ensures.answer (c.with.ensures.answer p) (c.difference.ensures.answer p) (c.difference.ensures.inside p)
