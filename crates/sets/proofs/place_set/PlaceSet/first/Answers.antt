use Rattle.std.proofs.Common.{◌≡◌, IfSome, Decides, sym, subst, rules, arith, w64, ℕ}
use Rattle.std.specs.Int.{trailing_zeros}
use Rattle.sets.specs.Flags.{IsEmpty}
use Rattle.sets.proofs.FlagLaws.{first_is}
use Rattle.sets.proofs.place_set.PlaceSet.first.Goals as goal

pub returns : goal.returns
returns c =
    let z : IfSome c.then.result (λ p. p ≡ trailing_zeros w64 c.self.inside.word) = search rules in
    let d : Decides c.is_empty.result (IsEmpty c.self.inside.word) =
    subst (λ (v : ℕ). Decides c.is_empty.result (IsEmpty v)) (sym c.self.view_is) c.is_empty.ensures in
    let f = first_is w64 c.self.inside.word (omega arith) c.is_empty.result d c.then.result c.then.ensures.variant z in
    rw (← c.self.view_is) record { answer = f.0; cases = f.1 }
