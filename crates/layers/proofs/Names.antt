-- A renaming row that changes no number shows the counts below it.
use Rattle.std.proofs.Common.{◌≡◌, ℕ, ◌<◌, ltb, List, get_or, ap, ◌∙◌}
use Rattle.std.proofs.lemmas.Bool.{cond-true, lt-ltb}
use Rattle.layers.specs.Renamings.{renamed}

pub same_names : (row : List ℕ) (counts : ℕ → ℕ) (p : ℕ) → ((q : ℕ) → q < 64 → get_or row q 0 ≡ q) → p < 64 → renamed row counts p ≡ counts p
same_names row counts p same h =
    cond-true (ltb p 64) (counts (get_or row p 0)) 0 (lt-ltb p 64 h) ∙ ap counts (same p h)
