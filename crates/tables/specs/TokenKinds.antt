-- The kinds of tokens: `TokenType`'s variants in their order, from 1. Assumes nothing.
use Rattle.std.specs.Prelude.{ℕ}
use Rattle.tables.specs.declared.token_type.TokenType.{TokenType}

abbrev pub NUMBER : ℕ
NUMBER = 1

abbrev pub AS : ℕ
AS = 2

abbrev pub CONST : ℕ
CONST = 3

abbrev pub ELSE : ℕ
ELSE = 4

abbrev pub FALSE : ℕ
FALSE = 5

abbrev pub FN : ℕ
FN = 6

abbrev pub IF : ℕ
IF = 7

abbrev pub LET : ℕ
LET = 8

abbrev pub NEW : ℕ
NEW = 9

abbrev pub RETURN : ℕ
RETURN = 10

abbrev pub STRUCT : ℕ
STRUCT = 11

abbrev pub TRUE : ℕ
TRUE = 12

abbrev pub WHILE : ℕ
WHILE = 13

abbrev pub LOOP : ℕ
LOOP = 14

abbrev pub FOR : ℕ
FOR = 15

abbrev pub IN : ℕ
IN = 16

abbrev pub BREAK : ℕ
BREAK = 17

abbrev pub CONTINUE : ℕ
CONTINUE = 18

abbrev pub USE : ℕ
USE = 19

abbrev pub IDENT : ℕ
IDENT = 20

abbrev pub NOT : ℕ
NOT = 21

abbrev pub ANDAND : ℕ
ANDAND = 22

abbrev pub OROR : ℕ
OROR = 23

abbrev pub AND : ℕ
AND = 24

abbrev pub OR : ℕ
OR = 25

abbrev pub XOR : ℕ
XOR = 26

abbrev pub EQEQ : ℕ
EQEQ = 27

abbrev pub NEQ : ℕ
NEQ = 28

abbrev pub LE : ℕ
LE = 29

abbrev pub GE : ℕ
GE = 30

abbrev pub LT : ℕ
LT = 31

abbrev pub GT : ℕ
GT = 32

abbrev pub PLUS : ℕ
PLUS = 33

abbrev pub MINUS : ℕ
MINUS = 34

abbrev pub MUL : ℕ
MUL = 35

abbrev pub DIV : ℕ
DIV = 36

abbrev pub MOD : ℕ
MOD = 37

abbrev pub EQ : ℕ
EQ = 38

abbrev pub ARROW : ℕ
ARROW = 39

abbrev pub LPAREN : ℕ
LPAREN = 40

abbrev pub RPAREN : ℕ
RPAREN = 41

abbrev pub LBRACE : ℕ
LBRACE = 42

abbrev pub RBRACE : ℕ
RBRACE = 43

abbrev pub LBRACK : ℕ
LBRACK = 44

abbrev pub RBRACK : ℕ
RBRACK = 45

abbrev pub COMMA : ℕ
COMMA = 46

abbrev pub SEMI : ℕ
SEMI = 47

abbrev pub COLON : ℕ
COLON = 48

abbrev pub COLONCOLON : ℕ
COLONCOLON = 49

abbrev pub DOT : ℕ
DOT = 50

-- the number of a kind
abbrev pub kind_of : TokenType → ℕ
kind_of TokenType.LiteralNumber = NUMBER
kind_of TokenType.As = AS
kind_of TokenType.Const = CONST
kind_of TokenType.Else = ELSE
kind_of TokenType.False = FALSE
kind_of TokenType.Function = FN
kind_of TokenType.If = IF
kind_of TokenType.Let = LET
kind_of TokenType.New = NEW
kind_of TokenType.Return = RETURN
kind_of TokenType.Struct = STRUCT
kind_of TokenType.True = TRUE
kind_of TokenType.While = WHILE
kind_of TokenType.Loop = LOOP
kind_of TokenType.For = FOR
kind_of TokenType.In = IN
kind_of TokenType.Break = BREAK
kind_of TokenType.Continue = CONTINUE
kind_of TokenType.Use = USE
kind_of TokenType.Identifier = IDENT
kind_of TokenType.Not = NOT
kind_of TokenType.AndAnd = ANDAND
kind_of TokenType.OrOr = OROR
kind_of TokenType.BitwiseAnd = AND
kind_of TokenType.BitwiseOr = OR
kind_of TokenType.BitwiseXor = XOR
kind_of TokenType.EqEq = EQEQ
kind_of TokenType.Neq = NEQ
kind_of TokenType.LessEqual = LE
kind_of TokenType.GreaterEqual = GE
kind_of TokenType.Less = LT
kind_of TokenType.Greater = GT
kind_of TokenType.Plus = PLUS
kind_of TokenType.Minus = MINUS
kind_of TokenType.Mul = MUL
kind_of TokenType.Div = DIV
kind_of TokenType.Mod = MOD
kind_of TokenType.Eq = EQ
kind_of TokenType.Arrow = ARROW
kind_of TokenType.LParen = LPAREN
kind_of TokenType.RParen = RPAREN
kind_of TokenType.LBrace = LBRACE
kind_of TokenType.RBrace = RBRACE
kind_of TokenType.LBrack = LBRACK
kind_of TokenType.RBrack = RBRACK
kind_of TokenType.Comma = COMMA
kind_of TokenType.Semicolon = SEMI
kind_of TokenType.Colon = COLON
kind_of TokenType.ColonColon = COLONCOLON
kind_of TokenType.Dot = DOT
