-- The spelling of a numeral, as the pattern of lexer.rs's `LiteralNumber` writes it. Assumes nothing.
use Rattle.patterns.specs.Bytes.{either, digit, hex, octal, binary}
use Rattle.patterns.specs.Patterns.{Pattern, text, one_of, some_of, optional, ◌then◌, ◌or◌, Name}

-- `0x`, `0o` or `0b` (either case of the letter) with one or more digits of that base, or decimal digits
abbrev pub Digits : Pattern
Digits =
    text "0" then one_of (either "x" "X") then some_of hex
    or text "0" then one_of (either "o" "O") then some_of octal
    or text "0" then one_of (either "b" "B") then some_of binary
    or some_of digit

-- then optionally a name
abbrev pub Spelling : Pattern
Spelling = Digits then optional Name
