-- A name or a text on one line: what is written of it, and the bytes that this stands for.
use Rattle.std.specs.Prelude.{ℕ, ◌-◌, ◌/◌, ◌%◌, codes, Bool, ◌&&◌, ◌==◌, nat_le}
use Rattle.std.specs.Prelude.{if◌then◌else◌, List, [], ◌∷◌, ◌++◌, flat_map, encode_utf8}
use Rattle.std.specs.List.{list_any}
use Rattle.std.specs.Str.{chars, is_utf8}
use Rattle.std.specs.Char.{digit_char}
use Rattle.command_line.specs.declared.names.TheConstants.{HIDDEN}

-- a byte as it is where it is ASCII that prints, else behind a backslash: `\n`, `\t`, `\\`, or `\x` and two digits
abbrev pub byte_shown : ℕ → List ℕ
byte_shown b =
    if b == 10 then codes "\\n" else (if b == 9 then codes "\\t" else (if b == 92 then codes "\\\\" else
    (if nat_le 32 b && nat_le b 126 then b ∷ [] else codes "\\x" ++ digit_char (b / 16)
    ∷ digit_char (b % 16) ∷ [])))

-- a character that takes a line's end or a direction, or that nobody sees
abbrev pub is_hidden : ℕ → Bool
is_hidden c = list_any (λ range. nat_le range.0 c && nat_le c range.1) HIDDEN

-- a character as it is, or each byte of one that is hidden or a backslash
abbrev pub char_shown : ℕ → List ℕ
char_shown c = if is_hidden c then flat_map byte_shown (encode_utf8 c) else encode_utf8 c

-- a text by its characters, and what is no text by its bytes
abbrev pub one_line : List ℕ → List ℕ
one_line name = if is_utf8 name then flat_map char_shown (chars name) else flat_map byte_shown name

-- the value of a hexadecimal digit in lower case; 0 for any other byte
abbrev pub hex_value : ℕ → ℕ
hex_value b = if nat_le 48 b && nat_le b 57 then b - 48 else (if nat_le 97 b && nat_le b 102 then b - 87 else 0)
