use Rattle.std.proofs.Common.{◌≡◌, ◌++◌, string_bytes, flat_map}
use Rattle.command_line.specs.Names.{char_shown}
use Rattle.command_line.proofs.names.push_chars.Given as goal

abbrev pub invariant-loop-c : goal.invariant-loop-c
invariant-loop-c l =
    string_bytes l.line ≡ string_bytes l.fn.line ++ flat_map char_shown l.yielded
