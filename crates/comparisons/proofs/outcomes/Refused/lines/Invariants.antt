use Rattle.std.proofs.Common.{◌≡◌, ◌++◌, drop, string_bytes}
use Rattle.comparisons.specs.Shown.{count_lines}
use Rattle.comparisons.proofs.outcomes.Refused.lines.Given as goal

abbrev pub invariant-loop-number : goal.invariant-loop-number
invariant-loop-number l = string_bytes l.lines ++ count_lines l.self.counts (drop l.number-index l.numbers) ≡ count_lines l.self.counts l.numbers
