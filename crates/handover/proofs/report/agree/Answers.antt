use Rattle.std.proofs.Common.{◌≡◌, ℕ, ◌<◌, ◌≤◌, Bool, true, false, length, slice_index_or, refl, subst, sym, rules, arith}
use Rattle.std.specs.Bool.{MatchBool}
use Rattle.std.specs.List.{range_with_len}
use Rattle.std.proofs.lemmas.Iterator.{cases_from_all, YieldsList-from_range}
use Rattle.std.proofs.lemmas.List.FromFn.{get_or-range_with_len, length-range_with_len}
use Rattle.theory.specs.Laws.{AgreeBelow}
use Rattle.handover.proofs.report.agree.Goals as goal

number_at : (n k : ℕ) → k < n → slice_index_or (range_with_len 0 n) k 0 ≡ k
number_at n k l = omega (arith, get_or-range_with_len 0 n k 0 l)

-- what is said of each number of a range, in the words of two functions that agree below its end
told : (f g : ℕ → ℕ) (n : ℕ) (a : Bool) →
    MatchBool a ((k d : ℕ) → 0 ≤ k → k < length (range_with_len 0 n) → f (slice_index_or (range_with_len 0 n) k d) ≡ g (slice_index_or (range_with_len 0 n) k d))
    ((k : ℕ) × (k < length (range_with_len 0 n)) × ((d : ℕ) → f (slice_index_or (range_with_len 0 n) k d) ≡ g (slice_index_or (range_with_len 0 n) k d) → ⊥)) →
    MatchBool a (AgreeBelow n f g) (AgreeBelow n f g → ⊥)
told f g n true h = λ i l.
    let P : ℕ → Type 0 = λ k. f k ≡ g k in subst P (number_at n i l) (h i 0 (omega arith) (omega (arith, length-range_with_len 0 n)))
told f g n false h = λ agree.
    let l : h.0 < n = omega (arith, h.1, length-range_with_len 0 n) in
    let P : ℕ → Type 0 = λ k. f k ≡ g k in
    h.2 0 (subst P (sym (number_at n h.0 l)) (agree h.0 l))

pub returns : goal.returns
returns g c =
    let places = c.args.places in
    let f = g.B.Board.counts c.args.first.now in
    let s = g.C.Board.counts c.args.second.now in
    told f s places _
    (cases_from_all _ _ _ (λ k. f k ≡ s k) (λ k. f k ≡ s k → ⊥) c.all.ensures.ran (YieldsList-from_range 0 places places refl (omega arith)) (λ k q called. search rules) (λ k q called. search rules))
