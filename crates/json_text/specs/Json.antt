-- The JSON of a node table and of a refusal, as 01 has it and RFC 8259 spells it. Assumes nothing.
use Rattle.std.specs.Prelude.{cond, List, [], ◌∷◌, ◌++◌, map, ℕ, zero, suc, ◌+◌, ◌/◌, ◌%◌, ◌^◌, leb, get_or}
use Prim.Native.String.{String}
use Rattle.patterns.specs.Bytes.{bytes, within}
use Rattle.tables.specs.Tables.{Node, Diagnostic}

-- the last k decimal digits of n, the most significant first
unfoldable pub digits : ℕ → ℕ → List ℕ
digits zero n = []
digits (suc k) n = digits k (n / 10) ++ ((48 + n % 10) ∷ [])

-- how many of 10, 100 and so on to 10 ^ m are at most n
unfoldable pub powers : ℕ → ℕ → ℕ
powers n zero = 0
powers n (suc m) = powers n m + cond (leb (10 ^ suc m) n) 1 0

-- RFC 8259, int: the digits of n without a leading zero, one more than there are powers of ten from 10 to n
unfoldable pub decimal : ℕ → List ℕ
decimal n = digits (suc (powers n n)) n

-- RFC 8259, array: what follows a value, each further one after a comma
unfoldable pub following : List (List ℕ) → List ℕ
following [] = bytes "]"
following (w ∷ l) = bytes "," ++ w ++ following l

-- RFC 8259, array: values in brackets, commas between, no spaces
unfoldable pub array : List (List ℕ) → List ℕ
array [] = bytes "[]"
array (w ∷ l) = bytes "[" ++ w ++ following l

-- RFC 8259, string: of letters and digits, which need no escape
unfoldable pub quoted : List ℕ → List ℕ
quoted w = bytes "\"" ++ w ++ bytes "\""

-- "Kinds, numbered from 1", in that order
unfoldable pub names : List String
names =
    "Name" ∷ "Named" ∷ "Pointer" ∷ "TypeTuple" ∷ "FixedArray" ∷ "Count" ∷ "Literal"
    ∷ "LiteralFelt" ∷ "LiteralU32" ∷ "Bool" ∷ "Identifier" ∷ "Unary" ∷ "Binary" ∷ "Call"
    ∷ "Member" ∷ "Index" ∷ "StructLiteral" ∷ "Tuple" ∷ "TupleIndex" ∷ "Array" ∷ "ArrayRepeat"
    ∷ "Cast" ∷ "New" ∷ "Paren" ∷ "PatternTuple" ∷ "Let" ∷ "Const" ∷ "Assign"
    ∷ "Return" ∷ "If" ∷ "ExprStmt" ∷ "Block" ∷ "Loop" ∷ "While" ∷ "For"
    ∷ "Break" ∷ "Continue" ∷ "Param" ∷ "Function" ∷ "StructDef" ∷ "UseSingle" ∷ "UseList"
    ∷ []

-- the name of a kind; empty for a number that is none
unfoldable pub kind_name : ℕ → List ℕ
kind_name k = bytes (get_or ("" ∷ names) k "")

-- "In every node, a value above 9,007,199,254,740,991 is printed as a JSON string of its decimal digits; smaller ones stay numbers" (RFC 7493, 2.2)
unfoldable pub value_text : ℕ → List ℕ
value_text v = cond (leb v 9007199254740991) (decimal v) (quoted (decimal v))

-- the base is "a sixth field on those four kinds only": Count and the three literals, 6 to 9
unfoldable pub sixth : ℕ → ℕ → List (List ℕ)
sixth kind base = cond (within 6 9 kind) (decimal base ∷ []) []

-- "Fields: kind, start, end, children, value"
unfoldable pub row : Node → List ℕ
row n = array (quoted (kind_name n.kind) ∷ decimal n.start ∷ decimal n.end ∷ decimal n.children ∷ value_text n.value ∷ sixth n.kind n.base)

-- "The listing prints every node lent to it"; without nodes `[]`
unfoldable pub listing : List Node → List ℕ
listing ns = array (map row ns)

-- "start, end, reason"
unfoldable pub diagnostic_row : Diagnostic → List ℕ
diagnostic_row d = array (decimal d.start ∷ decimal d.end ∷ decimal d.reason ∷ [])

-- a refusal's diagnostics; "a refusal without diagnostics has `[]` for them"
unfoldable pub diagnostic_rows : List Diagnostic → List ℕ
diagnostic_rows ds = array (map diagnostic_row ds)

-- "A refused text prints `{"refused":3,"diagnostics":[[0,1,1]]}`"
unfoldable pub refusal : ℕ → List Diagnostic → List ℕ
refusal outcome ds = bytes "{\"refused\":" ++ decimal outcome ++ bytes ",\"diagnostics\":" ++ diagnostic_rows ds ++ bytes "}"
