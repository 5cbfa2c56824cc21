use Rattle.std.proofs.Common.{◌≡◌, ℕ, ◌<◌, ltb, List, get_or, replicate, ap, ◌∙◌, ⊎_elim, arith}
use Rattle.std.proofs.lemmas.List.{get_or-replicate, get_or_past}
use Rattle.std.proofs.lemmas.Bool.{cases_lt, lt-ltb, cond-true}
use Rattle.theory.specs.Rows.{at}
use Rattle.layers.specs.Renamings.{renamed}
use Rattle.handover.proofs.piles.SecondBoard.pile.Goals as goal

zeros : (q : ℕ) → at (replicate 64 0) q ≡ 0
zeros q = ⊎_elim (λ h. get_or-replicate 64 q 0 0 h) (λ h. get_or_past (replicate 64 0) q 0 h) (cases_lt q 64)

-- an empty board stays empty under other names
renamed_empty : (row : List ℕ) (counts : ℕ → ℕ) → ((q : ℕ) → counts q ≡ 0) → (p : ℕ) → p < 64 → renamed row counts p ≡ 0
renamed_empty row counts empty p h = cond-true (ltb p 64) (counts (get_or row p 0)) 0 (lt-ltb p 64 h) ∙ empty (get_or row p 0)

pub returns : goal.returns
returns c p h =
    let pile = c.load_names.new.pile in
    let below = c.load_names.ensures ∙ c.new-pile.ensures.below in
    let empty : (q : ℕ) → at pile.below.below.counts q ≡ 0 =
    λ q. ap (λ a. at a.below.counts q) below ∙ ap (λ b. at b.counts q) c.new.ensures.below ∙ c.in_ok-load.ensures.answer.counts_given q ∙ zeros q in
    omega (arith, c.in_ok-lay_out.ensures p h, renamed_empty pile.row (at pile.below.below.counts) empty p h)
