use Rattle.std.proofs.Common.{◌≡◌, ◌*◌, ◌%◌, ◌^◌, arith, w64}
use lib.Bits.{or_lt}
use Rattle.sets.proofs.FlagLaws.{has_with, with_greater}
use Rattle.sets.proofs.place_set.PlaceSet.with.Goals as goal

pub returns-then-place-lt-PLACES-clause-answer : goal.returns-then-place-lt-PLACES-clause-answer
returns-then-place-lt-PLACES-clause-answer c =
    let last : c.args.place % 64 ≡ c.args.place = omega (arith, c.if-place-lt-PLACES.true) in
    rw (← c.self.view_is, last) (λ p. has_with w64 c.self.inside.word c.args.place p c.if-place-lt-PLACES.true)

pub returns-then-place-lt-PLACES-clause-grows : goal.returns-then-place-lt-PLACES-clause-grows
returns-then-place-lt-PLACES-clause-grows c =
    let last : c.args.place % 64 ≡ c.args.place = omega (arith, c.if-place-lt-PLACES.true) in
    rw (← c.self.view_is, last) (λ h _. with_greater 64 c.self.inside.word c.args.place c.if-place-lt-PLACES.true h)

pub returns-then-place-lt-PLACES-clause-bound : goal.returns-then-place-lt-PLACES-clause-bound
returns-then-place-lt-PLACES-clause-bound c = or_lt 64 c.self.inside.word ((1 * 2 ^ (c.args.place % 64)) % 2 ^ 64) (omega arith) (omega arith)
