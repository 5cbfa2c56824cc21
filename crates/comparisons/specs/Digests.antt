use Rattle.std.specs.Prelude.{ℕ, List, ◌*◌, ◌%◌, ◌^◌, bit_xor}
use Rattle.std.specs.List.{fold}
use Rattle.std.specs.Int.{w32, to_le_bytes}

-- where a digest begins
abbrev pub first_value : ℕ
first_value = 2166136261

abbrev pub number_factor : ℕ
number_factor = 16777619

abbrev pub after_byte : ℕ → ℕ → ℕ
after_byte value byte = (bit_xor value byte * number_factor) % 2 ^ 32

abbrev pub after_bytes : ℕ → List ℕ → ℕ
after_bytes value bytes = fold after_byte value bytes

-- a number counts by its four bytes, low byte first
abbrev pub after_number : ℕ → ℕ → ℕ
after_number value number = after_bytes value (to_le_bytes w32 number)

abbrev pub after_numbers : ℕ → List ℕ → ℕ
after_numbers value numbers = fold after_number value numbers
