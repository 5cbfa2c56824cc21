use Rattle.std.proofs.Common.{◌≡◌, ◌++◌, string_bytes, flat_map, take}
use Rattle.command_line.specs.Names.{byte_shown}
use Rattle.command_line.proofs.names.push_bytes.Given as goal

abbrev pub invariant-loop-byte : goal.invariant-loop-byte
invariant-loop-byte l =
    string_bytes l.line ≡ string_bytes l.fn.line ++ flat_map byte_shown (take l.byte-index l.bytes)
