-- A line that the text memory has room for is written.
use Rattle.std.proofs.Common.{ℕ, ◌≤◌, List, length, Ok, Err, IsOk, Result, refl, arith}
use Rattle.refusals.specs.declared.Refusal.{Refusal}
use Rattle.lines.specs.Lines.{LineWritten}

pub fitting : (line text : List ℕ) (r : Result ℕ Refusal) (text' : List ℕ) → LineWritten line text r text' → length line ≤ length text → IsOk r
fitting line text (Ok n) text' w h = refl
fitting line text (Err e) text' w h = absurd (omega (arith, w.0, h))
