use Rattle.command_line.specs.Files.{BeginsWith}
use Rattle.command_line.proofs.arguments.words.Given as goal

abbrev pub invariant-loop-place : goal.invariant-loop-place
invariant-loop-place R l = BeginsWith l.fn.program l.words.items
