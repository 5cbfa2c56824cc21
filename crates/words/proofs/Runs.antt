use Rattle.std.specs.Prelude.{◌≡◌, ℕ, ◌≤◌, ◌-◌, List, [], ◌∷◌, ◌++◌, length, take, drop, replicate, slice_index}
use Rattle.std.proofs.Common.{ap, sym, ◌∙◌, arith}
use Rattle.std.proofs.lemmas.List.{take_all, append_assoc}
use Rattle.words.specs.Slots.{slots_of}

pub first_run : (runs : List ℕ) → 2 ≤ length runs → slots_of runs ≡ replicate (slice_index runs 0) (slice_index runs 1) ++ slots_of (take (length runs - 2) (drop 2 runs))
first_run [] h = absurd (omega (arith, h))
first_run (l ∷ []) h = absurd (omega (arith, h))
first_run (l ∷ held ∷ rest) h = ap (λ left. replicate l held ++ slots_of left) (sym (take_all _ rest (omega arith)))

-- what a turn of the loop keeps: the slots so far and those of the runs left are all slots
pub one_run_more : (old new runs all : List ℕ) (n x : ℕ) → new ≡ old ++ replicate n x → n ≡ slice_index runs 0 → x ≡ slice_index runs 1 → 2 ≤ length runs → old ++ slots_of runs ≡ all → new ++ slots_of (take (length runs - 2) (drop 2 runs)) ≡ all
one_run_more old new runs all n x added long held two before =
    let left = slots_of (take (length runs - 2) (drop 2 runs)) in
    ap (λ s. s ++ left) added
    ∙ append_assoc old (replicate n x) left
    ∙ ap (λ k. old ++ (replicate k x ++ left)) long
    ∙ ap (λ y. old ++ (replicate (slice_index runs 0) y ++ left)) held
    ∙ ap (λ s. old ++ s) (sym (first_run runs two))
    ∙ before
