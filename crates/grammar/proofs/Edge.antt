-- 01's texts on the edge that are held to the grammar, in one table: what it derives of each, or that it derives nothing and where it stops. Assumes nothing.
use Prim.Native.Nat.{ℕ}
use Prim.Native.String.{String}
use mathlib.Core.Path.{◌≡◌, refl}
use mathlib.Core.List.{List, [], ◌∷◌, map}
use Rattle.patterns.specs.Bytes.{bytes, same, starts}
use Rattle.tables.specs.TokenKinds.{NUMBER, CONST, ELSE, FN, IF, LET, USE, IDENT, ANDAND, OROR, EQ, LPAREN, RPAREN, LBRACE, RBRACE, LBRACK, RBRACK, COMMA, SEMI, COLON, DOT}
use Rattle.grammar.specs.Kinds.{Name, TypeTuple, Count, Literal, Identifier, Binary, Call, TupleIndex, ArrayRepeat, Const, If, ExprStmt, Block, Function}
use Rattle.grammar.specs.Derive.{Token, Node, Input, type_name, part, yields, leave, agree}
use Rattle.grammar.specs.Grammar.{body, Tree, Stops}
use Rattle.grammar.proofs.Eval.{eval}
use Rattle.grammar.proofs.Verdict.{Verdict, tree, refused, unknown, judge, accepted, not_derived, stopped}

-- a token, a numeral, a node and a numeral's node
abbrev t : ℕ → ℕ → ℕ → Token
t k a b = record { kind = k; suffix = 0; start = a; end = b; base = 0; value = 0 }

abbrev n : ℕ → ℕ → ℕ → ℕ → ℕ → Token
n a b v f d = record { kind = NUMBER; suffix = f; start = a; end = b; base = d; value = v }

abbrev o : ℕ → ℕ → ℕ → ℕ → ℕ → Node
o k a b c v = record { kind = k; base = 0; start = a; end = b; children = c; value = v }

abbrev m : ℕ → ℕ → ℕ → ℕ → ℕ → Node
m k a b v d = record { kind = k; base = d; start = a; end = b; children = 0; value = v }

pub data Row : Type 0 where
  row : String → List Token → Verdict → Row

abbrev input : String → List Token → Input
input w ts = record { text = bytes w; tokens = ts }

-- the grammar derives this tree of the text, with these literals of unknown suffix; or it derives none, and this token is the first that no attempt takes
abbrev pub Meets : Row → Type 0
Meets (row w ts (tree ns ds)) = Tree (input w ts) ns ds
Meets (row w ts (refused i)) = ((ns : List Node) (ds : List Token) → Tree (input w ts) ns ds → ⊥) × Stops (input w ts) i
Meets (row w ts unknown) = Unit {0}

abbrev pub All : List Row → Type 0
All [] = Unit {0}
All (r ∷ l) = Meets r × All l

-- a token that a failed round gave back, or that was turned down, was taken; the last rows: an optional part, as an `else`, is greedy; a literal and a Count carry their base, a TupleIndex does not
unfoldable pub rows : List Row
rows =
    row ""
    ([])
    (tree [] [])
    ∷ row "const A = 1;"
    (t CONST 0 5 ∷ t IDENT 6 7 ∷ t EQ 8 9 ∷ n 10 11 1 0 10 ∷ t SEMI 11 12 ∷ [])
    (tree (o Name 6 7 0 0 ∷ m Literal 10 11 1 10 ∷ o Const 0 12 2 0 ∷ []) [])
    ∷ row "const A = f( );"
    (t CONST 0 5 ∷ t IDENT 6 7 ∷ t EQ 8 9 ∷ t IDENT 10 11 ∷ t LPAREN 11 12 ∷ t RPAREN 13 14 ∷ t SEMI 14 15 ∷ [])
    (tree (o Name 6 7 0 0 ∷ o Identifier 10 11 0 0 ∷ o Call 10 13 1 0 ∷ o Const 0 15 2 0 ∷ []) [])
    ∷ row "fn f() { a || b && c; }"
    (t FN 0 2 ∷ t IDENT 3 4 ∷ t LPAREN 4 5 ∷ t RPAREN 5 6 ∷ t LBRACE 7 8 ∷ t IDENT 9 10 ∷ t OROR 11 13 ∷ t IDENT 14 15 ∷ t ANDAND 16 18 ∷ t IDENT 19 20 ∷ t SEMI 20 21 ∷ t RBRACE 22 23 ∷ [])
    (tree (o Name 3 4 0 0 ∷ o TypeTuple 0 0 0 0 ∷ o Identifier 9 10 0 0 ∷ o Identifier 14 15 0 0 ∷ o Binary 9 15 2 12 ∷ o Identifier 19 20 0 0 ∷ o Binary 9 20 2 11 ∷ o ExprStmt 9 21 1 0 ∷ o Function 0 23 3 0 ∷ []) [])
    ∷ row "fn f() { if (x) {} }"
    (t FN 0 2 ∷ t IDENT 3 4 ∷ t LPAREN 4 5 ∷ t RPAREN 5 6 ∷ t LBRACE 7 8 ∷ t IF 9 11 ∷ t LPAREN 12 13 ∷ t IDENT 13 14 ∷ t RPAREN 14 15 ∷ t LBRACE 16 17 ∷ t RBRACE 17 18 ∷ t RBRACE 19 20 ∷ [])
    (tree (o Name 3 4 0 0 ∷ o TypeTuple 0 0 0 0 ∷ o Identifier 13 14 0 0 ∷ o Block 16 18 0 0 ∷ o If 9 18 2 0 ∷ o Function 0 20 3 0 ∷ []) [])
    ∷ row "fn f() { 12u8; }"
    (t FN 0 2 ∷ t IDENT 3 4 ∷ t LPAREN 4 5 ∷ t RPAREN 5 6 ∷ t LBRACE 7 8 ∷ n 9 13 12 3 10 ∷ t SEMI 13 14 ∷ t RBRACE 15 16 ∷ [])
    (tree (o Name 3 4 0 0 ∷ o TypeTuple 0 0 0 0 ∷ m Literal 9 13 12 10 ∷ o ExprStmt 9 14 1 0 ∷ o Function 0 16 3 0 ∷ []) (n 9 13 12 3 10 ∷ []))
    ∷ row "fn f() { if x {} }"
    (t FN 0 2 ∷ t IDENT 3 4 ∷ t LPAREN 4 5 ∷ t RPAREN 5 6 ∷ t LBRACE 7 8 ∷ t IF 9 11 ∷ t IDENT 12 13 ∷ t LBRACE 14 15 ∷ t RBRACE 15 16 ∷ t RBRACE 17 18 ∷ [])
    (refused 9)
    ∷ row "fn f() { let (a) = b; }"
    (t FN 0 2 ∷ t IDENT 3 4 ∷ t LPAREN 4 5 ∷ t RPAREN 5 6 ∷ t LBRACE 7 8 ∷ t LET 9 12 ∷ t LPAREN 13 14 ∷ t IDENT 14 15 ∷ t RPAREN 15 16 ∷ t EQ 17 18 ∷ t IDENT 19 20 ∷ t SEMI 20 21 ∷ t RBRACE 22 23 ∷ [])
    (refused 8)
    ∷ row "fn f() { let (a, b,) = c; }"
    (t FN 0 2 ∷ t IDENT 3 4 ∷ t LPAREN 4 5 ∷ t RPAREN 5 6 ∷ t LBRACE 7 8 ∷ t LET 9 12 ∷ t LPAREN 13 14 ∷ t IDENT 14 15 ∷ t COMMA 15 16 ∷ t IDENT 17 18 ∷ t COMMA 18 19 ∷ t RPAREN 19 20 ∷ t EQ 21 22 ∷ t IDENT 23 24 ∷ t SEMI 24 25 ∷ t RBRACE 26 27 ∷ [])
    (refused 11)
    ∷ row "fn f() { [1; 3u32]; }"
    (t FN 0 2 ∷ t IDENT 3 4 ∷ t LPAREN 4 5 ∷ t RPAREN 5 6 ∷ t LBRACE 7 8 ∷ t LBRACK 9 10 ∷ n 10 11 1 0 10 ∷ t SEMI 11 12 ∷ n 13 17 3 2 10 ∷ t RBRACK 17 18 ∷ t SEMI 18 19 ∷ t RBRACE 20 21 ∷ [])
    (refused 10)
    ∷ row "fn f() { let a: [felt; 3u32] = b; }"
    (t FN 0 2 ∷ t IDENT 3 4 ∷ t LPAREN 4 5 ∷ t RPAREN 5 6 ∷ t LBRACE 7 8 ∷ t LET 9 12 ∷ t IDENT 13 14 ∷ t COLON 14 15 ∷ t LBRACK 16 17 ∷ t IDENT 17 21 ∷ t SEMI 21 22 ∷ n 23 27 3 2 10 ∷ t RBRACK 27 28 ∷ t EQ 29 30 ∷ t IDENT 31 32 ∷ t SEMI 32 33 ∷ t RBRACE 34 35 ∷ [])
    (refused 12)
    ∷ row "fn f() { let a: [felt; (3)] = b; }"
    (t FN 0 2 ∷ t IDENT 3 4 ∷ t LPAREN 4 5 ∷ t RPAREN 5 6 ∷ t LBRACE 7 8 ∷ t LET 9 12 ∷ t IDENT 13 14 ∷ t COLON 14 15 ∷ t LBRACK 16 17 ∷ t IDENT 17 21 ∷ t SEMI 21 22 ∷ t LPAREN 23 24 ∷ n 24 25 3 0 10 ∷ t RPAREN 25 26 ∷ t RBRACK 26 27 ∷ t EQ 28 29 ∷ t IDENT 30 31 ∷ t SEMI 31 32 ∷ t RBRACE 33 34 ∷ [])
    (refused 14)
    ∷ row "fn f() { t.0u32; }"
    (t FN 0 2 ∷ t IDENT 3 4 ∷ t LPAREN 4 5 ∷ t RPAREN 5 6 ∷ t LBRACE 7 8 ∷ t IDENT 9 10 ∷ t DOT 10 11 ∷ n 11 15 0 2 10 ∷ t SEMI 15 16 ∷ t RBRACE 17 18 ∷ [])
    (refused 8)
    ∷ row "const A = f(1"
    (t CONST 0 5 ∷ t IDENT 6 7 ∷ t EQ 8 9 ∷ t IDENT 10 11 ∷ t LPAREN 11 12 ∷ n 12 13 1 0 10 ∷ [])
    (refused 6)
    ∷ row "use m; }"
    (t USE 0 3 ∷ t IDENT 4 5 ∷ t SEMI 5 6 ∷ t RBRACE 7 8 ∷ [])
    (refused 3)
    ∷ row "fn f() { if (a) if (b) {} else {} }"
    (t FN 0 2 ∷ t IDENT 3 4 ∷ t LPAREN 4 5 ∷ t RPAREN 5 6 ∷ t LBRACE 7 8 ∷ t IF 9 11 ∷ t LPAREN 12 13 ∷ t IDENT 13 14 ∷ t RPAREN 14 15 ∷ t IF 16 18 ∷ t LPAREN 19 20 ∷ t IDENT 20 21 ∷ t RPAREN 21 22 ∷ t LBRACE 23 24 ∷ t RBRACE 24 25 ∷ t ELSE 26 30 ∷ t LBRACE 31 32 ∷ t RBRACE 32 33 ∷ t RBRACE 34 35 ∷ [])
    (tree (o Name 3 4 0 0 ∷ o TypeTuple 0 0 0 0 ∷ o Identifier 13 14 0 0 ∷ o Identifier 20 21 0 0 ∷ o Block 23 25 0 0 ∷ o Block 31 33 0 0 ∷ o If 16 33 3 0 ∷ o If 9 33 2 0 ∷ o Function 0 35 3 0 ∷ []) [])
    ∷ row "fn f() { [0x1F; 0b11].0; }"
    (t FN 0 2 ∷ t IDENT 3 4 ∷ t LPAREN 4 5 ∷ t RPAREN 5 6 ∷ t LBRACE 7 8 ∷ t LBRACK 9 10 ∷ n 10 14 31 0 16 ∷ t SEMI 14 15 ∷ n 16 20 3 0 2 ∷ t RBRACK 20 21 ∷ t DOT 21 22 ∷ n 22 23 0 0 10 ∷ t SEMI 23 24 ∷ t RBRACE 25 26 ∷ [])
    (tree (o Name 3 4 0 0 ∷ o TypeTuple 0 0 0 0 ∷ m Literal 10 14 31 16 ∷ m Count 16 20 3 2 ∷ o ArrayRepeat 9 21 2 0 ∷ o TupleIndex 9 23 1 0 ∷ o ExprStmt 9 24 1 0 ∷ o Function 0 26 3 0 ∷ []) [])
    ∷ []

judged : Row → Verdict
judged (row w ts v) = judge 300 (input w ts)

expected : Row → Verdict
expected (row w ts v) = v

computed : map judged rows ≡ map expected rows
unfolding judged expected rows judge eval body part yields leave agree type_name same starts
computed = refl

meets : (w : String) (ts : List Token) (v : Verdict) → judge 300 (input w ts) ≡ v → Meets (row w ts v)
meets w ts (tree ns ds) e = accepted (input w ts) 300 e
meets w ts (refused i) e = (λ ns ds a. not_derived (input w ts) 300 e a, stopped (input w ts) 300 e)
meets w ts unknown e = tt

all : (l : List Row) → map judged l ≡ map expected l → All l
unfolding judged expected
all [] e = tt
all (row w ts v ∷ l) e = (meets w ts v (cc), all l (cc))

pub edge : All rows
edge = all rows computed
