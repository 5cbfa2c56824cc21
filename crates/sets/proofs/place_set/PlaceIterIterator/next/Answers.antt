use Rattle.sets.proofs.LeastFlag.{some_not_zero}
use Rattle.sets.proofs.place_set.PlaceIterIterator.next.Goals as goal

pub returns-clause-goes : goal.returns-clause-goes
returns-clause-goes c = record {
  on = λ _. (tt, tt, c.without_first-self.ensures.shrinks (some_not_zero c.args.self.now.rest c.in_ok-place.place c.in_ok-place.ensures.cases.passes));
  keeps = tt;
  rests = λ _. tt;
}
