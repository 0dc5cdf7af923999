-- The fixed texts of the kinds of tokens. Assumes nothing.
use Rattle.std.specs.Prelude.{List, [], ◌∷◌, ℕ, get_or}
use Prim.Native.String.{String}
use Rattle.patterns.specs.Bytes.{bytes}

-- what is skipped has no kind of its own
abbrev pub Skipped : ℕ
Skipped = 0

-- the text of each kind from 0 on, "" for a kind that has no fixed one
unfoldable pub texts : List String
texts =
    "" ∷ ""
    ∷ "as" ∷ "const" ∷ "else" ∷ "false" ∷ "fn" ∷ "if" ∷ "let" ∷ "new" ∷ "return" ∷ "struct" ∷ "true" ∷ "while" ∷ "loop" ∷ "for" ∷ "in" ∷ "break" ∷ "continue" ∷ "use"
    ∷ ""
    ∷ "!" ∷ "&&" ∷ "||" ∷ "&" ∷ "|" ∷ "^" ∷ "==" ∷ "!=" ∷ "<=" ∷ ">=" ∷ "<" ∷ ">" ∷ "+" ∷ "-" ∷ "*" ∷ "/" ∷ "%" ∷ "="
    ∷ "->" ∷ "(" ∷ ")" ∷ "{" ∷ "}" ∷ "[" ∷ "]" ∷ "," ∷ ";" ∷ ":" ∷ "::" ∷ "." ∷ []

-- the bytes of the kind's text; none for a numeral and a name
unfoldable pub fixed_of : ℕ → List ℕ
unfolding texts
fixed_of k = bytes (get_or texts k "")
