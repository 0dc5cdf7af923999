-- The grammar of Cairo-M, to be held beside parser.rs: each rule has the tokens and the order that it has there, and the comment says which expression of parser.rs or which words of 01 it states. Assumes nothing.
use Rattle.std.specs.Prelude.{ℕ, zero, suc, ◌<◌, ◌≡◌, List, length}
use Rattle.tables.specs.TokenKinds.{NUMBER, AS, CONST, ELSE, FALSE, FN, IF, LET, NEW, RETURN, STRUCT, TRUE, WHILE, LOOP, FOR, BREAK, CONTINUE, USE, IDENT}
use Rattle.tables.specs.TokenKinds.{NOT, ANDAND, OROR, AND, OR, XOR, EQEQ, NEQ, LE, GE, LT, GT, PLUS, MINUS, MUL, DIV, MOD, EQ, ARROW}
use Rattle.tables.specs.TokenKinds.{LPAREN, RPAREN, LBRACE, RBRACE, LBRACK, RBRACK, COMMA, SEMI, COLON, COLONCOLON, DOT}
use Rattle.grammar.specs.Kinds.{Name, Pointer, TypeTuple, FixedArray, Bool·, Identifier, Unary, Binary, Call, Member, Index, StructLiteral}
use Rattle.grammar.specs.Kinds.{Tuple, TupleIndex, Array, ArrayRepeat, Cast, New, Paren, PatternTuple, Let, Const, Assign, Return, If, ExprStmt}
use Rattle.grammar.specs.Kinds.{Block, Loop, While, For, Break, Continue, Param, Function, StructDef, UseSingle, UseList}
use Rattle.grammar.specs.Derive.{Token, Node, Input, R, type, alloc, pattern, expr, stmt, unary, init_let, init_action, for_step, param, unit, item, level}
use Rattle.grammar.specs.Derive.{Act, skip, leaf, named, literal, count, index, mark, first_token, first_part, from_nowhere, last_token, last_part, call_end, to_nowhere}
use Rattle.grammar.specs.Derive.{take, close, tick, alone, done, G, step, ◌&◌, ◌or◌, many, both, rule, S, got, begin, Derives, Takes}

-- ---- spellings

-- `just`: a token that leaves nothing
abbrev pub tok : ℕ → G
tok k = step (take k skip)

-- spanned_ident_parser: a name pattern is a Name too
abbrev pub name : G
name = step (take IDENT (leaf Name 0))

-- named_type, simple_named_type
abbrev pub named_type : G
named_type = step (take IDENT named)

-- `select!` of a LiteralNumber
abbrev pub numeral : Act → G
numeral a = step (take NUMBER a)

-- an operator, with its number in UnaryOp or BinaryOp
abbrev pub op : ℕ → ℕ → G
op k n = step (take k (mark n))

-- a node over all its tokens: `extra.span()`
abbrev pub whole : ℕ → G
whole k = step (close k first_token last_token)

-- a node from its first operand to its last
abbrev pub operands : ℕ → G
operands k = step (close k first_part last_part)

-- a node with the span 0..0
abbrev pub spanless : ℕ → G
spanless k = step (close k from_nowhere to_nowhere)

-- `or_not`: greedy, and what fails gives its tokens back
abbrev pub opt : G → G
opt g = g or step done

-- one more entry of a list
abbrev pub another : G → G
another g = tok COMMA & g

-- `separated_by(Comma)`: entries parted by commas, perhaps none
abbrev pub entries : G → G
entries g = opt (g & many (another g))

-- `separated_by(Comma).allow_trailing()`: a trailing comma after at least one entry
abbrev pub list : G → G
list g = opt (g & many (another g) & opt (tok COMMA))

-- ---- types

-- a pointer runs from its operand's start to its star
abbrev pub star : G
star = tok MUL & step (close Pointer first_part last_token)

-- a type is followed by any number of stars
abbrev pub stars : G
stars = many star

-- `(T)` is T with T's own span; else a tuple, a trailing comma allowed
abbrev pub tuple_end : G
tuple_end = (tok COMMA & tok RPAREN & whole TypeTuple) or (tok RPAREN & (step alone or whole TypeTuple))

-- tuple_type: `()` and `(,)` are the empty tuple, `(T,)` a one-tuple
abbrev pub tuple_type : R → G
tuple_type r = tok LPAREN & entries (rule r) & tuple_end

-- the size is an expression that is exactly an unsuffixed literal
abbrev pub size : G
size = both (rule expr) (numeral count)

-- array_type
abbrev pub array_type : G
array_type = tok LBRACK & rule type & tok SEMI & size & tok RBRACK & whole FixedArray

-- ---- expressions

-- `name: g`, the value of a struct literal's field or the type of a struct's
abbrev pub field : G → G
field g = name & tok COLON & g

-- struct_literal_fields, struct_field
abbrev pub fields : G → G
fields g = list (field g)

-- new_expr
abbrev pub new_expr : G
new_expr = tok NEW & rule alloc & tok LBRACK & rule expr & tok RBRACK & whole New

-- struct_literal
abbrev pub struct_literal : G
struct_literal = name & tok LBRACE & fields (rule expr) & tok RBRACE & whole StructLiteral

-- the repeat numeral has no suffix: turned down after the bracket
abbrev pub repeat_count : G
repeat_count = both (tok NUMBER & tok RBRACK) (numeral count & tok RBRACK)

-- array_repeat
abbrev pub array_repeat : G
array_repeat =
    tok LBRACK & rule expr & tok SEMI & repeat_count & whole ArrayRepeat

-- array_literal
abbrev pub array_literal : G
array_literal = tok LBRACK & list (rule expr) & tok RBRACK & whole Array

-- `(e)`
abbrev pub paren_tail : G
paren_tail = tok RPAREN & whole Paren

-- a tuple of two or more may end in a comma; `(e,)` is a one-tuple
abbrev pub tuple_tail : G
tuple_tail = many (tok COMMA & rule expr) & opt (tok COMMA) & tok RPAREN & whole Tuple

-- paren_or_tuple: `()` is the empty tuple; after the first expression `)` or `,` decides, and `)` comes first here, where nothing looks ahead
abbrev pub paren_or_tuple : G
paren_or_tuple = tok LPAREN & ((tok RPAREN & whole Tuple) or (rule expr & (paren_tail or tuple_tail)))

-- atom, in order
abbrev pub atom : G
atom =
    numeral literal
    or step (take TRUE (leaf Bool· 1))
    or step (take FALSE (leaf Bool· 0))
    or new_expr
    or struct_literal
    or array_repeat
    or array_literal
    or step (take IDENT (leaf Identifier 0))
    or paren_or_tuple

-- postfix_op: call, `.numeral` without suffix, `.name`, `[expr]`
abbrev pub postfix : G
postfix =
    (tok LPAREN & list (rule expr) & tok RPAREN & step (close Call first_part call_end))
    or (tok DOT & numeral index & step (close TupleIndex first_part last_token))
    or (tok DOT & name & operands Member)
    or (tok LBRACK & rule expr & tok RBRACK & operands Index)

-- mul, add, cmp, bitwise, and `&&` and `||` together
abbrev pub operator : ℕ → G
operator zero = op MUL 2 or op DIV 3 or op MOD 4
operator (suc zero) = op PLUS 0 or op MINUS 1
operator (suc (suc zero)) = op EQEQ 5 or op NEQ 6 or op LT 7 or op GT 8 or op LE 9 or op GE 10
operator (suc (suc (suc zero))) = op AND 13 or op OR 14 or op XOR 15
operator (suc (suc (suc (suc n)))) = op ANDAND 11 or op OROR 12

-- cast: to a name only
abbrev pub cast : G
cast = tok AS & named_type & operands Cast

-- one step of a left-associative chain
abbrev pub link : ℕ → G
link n = operator n & rule (level n) & operands Binary

-- ---- statements

-- an optional type; the value 1 says that it is there
abbrev pub typed : G
typed = opt (tok COLON & rule type & step tick)

-- if_condition, while_condition: `(expr)` and, only if that fails, a bare `expr`
abbrev pub condition : G
condition = (tok LPAREN & rule expr & tok RPAREN) or rule expr

-- let_stmt
abbrev pub let_stmt : G
let_stmt = tok LET & rule pattern & typed & tok EQ & rule expr & tok SEMI & whole Let

-- const_stmt, const_def_parser
abbrev pub const_def : G
const_def = tok CONST & name & typed & tok EQ & rule expr & tok SEMI & whole Const

-- the right side of an assignment, if any
abbrev pub assigned : G
assigned = opt (tok EQ & rule expr)

-- one part is an expression statement, two an assignment
abbrev pub finish : G
finish = (step alone & whole ExprStmt) or whole Assign

-- assignment_or_expr, for_init, for_step: up to e
abbrev pub action : G → G
action e = rule expr & assigned & e & finish

-- for_init
abbrev pub for_init : G
for_init = rule init_let or rule init_action

-- for_stmt
abbrev pub for_stmt : G
for_stmt = tok FOR & tok LPAREN & for_init & rule expr & tok SEMI & rule for_step & tok RPAREN & rule stmt & whole For

-- block
abbrev pub block_stmt : G
block_stmt = tok LBRACE & many (rule stmt) & tok RBRACE & whole Block

-- an else belongs to the nearest if
abbrev pub else_part : G
else_part = opt (tok ELSE & rule stmt)

-- if_stmt
abbrev pub if_stmt : G
if_stmt = tok IF & condition & rule stmt & else_part & whole If

-- loop_stmt
abbrev pub loop_stmt : G
loop_stmt = tok LOOP & rule stmt & whole Loop

-- while_stmt
abbrev pub while_stmt : G
while_stmt = tok WHILE & condition & rule stmt & whole While

-- break_stmt
abbrev pub break_stmt : G
break_stmt = tok BREAK & tok SEMI & whole Break

-- continue_stmt
abbrev pub continue_stmt : G
continue_stmt = tok CONTINUE & tok SEMI & whole Continue

-- return_stmt
abbrev pub return_stmt : G
return_stmt = tok RETURN & opt (rule expr) & tok SEMI & whole Return

-- statement_parser, in order
abbrev pub statement : G
statement =
    block_stmt or if_stmt or loop_stmt or while_stmt or for_stmt or break_stmt or continue_stmt or let_stmt or const_def or return_stmt
    or action (tok SEMI)

-- ---- items

-- parameter_parser; the mark counts the Params
abbrev pub parameter : G
parameter = rule param & step tick

-- an absent return type is an empty tuple type with 0..0
abbrev pub result_type : G
result_type = (tok ARROW & rule type) or rule unit

-- function_def_parser
abbrev pub function : G
function =
    tok FN & name & tok LPAREN & list parameter & tok RPAREN & result_type & tok LBRACE & many (rule stmt) & tok RBRACE & whole Function

-- struct_def_parser
abbrev pub struct_def : G
struct_def = tok STRUCT & name & tok LBRACE & fields (rule type) & tok RBRACE & whole StructDef

-- a use path is one or more names parted by `::`; the mark counts those of the path, of a single use all but the last
abbrev pub segment : G
segment = tok COLONCOLON & name & step tick

-- single
abbrev pub use_single : G
use_single = name & many segment & tok SEMI & whole UseSingle

-- list
abbrev pub use_list : G
use_list = name & step tick & many segment & tok COLONCOLON & tok LBRACE & list name & tok RBRACE & tok SEMI & whole UseList

-- use_stmt_parser: single use is tried before a list
abbrev pub use_def : G
use_def = tok USE & (use_single or use_list)

-- ---- the language

-- the rules
unfoldable pub body : R → G
body type = (named_type or array_type or tuple_type type) & stars
body alloc = (named_type or tuple_type alloc) & stars
body pattern = (tok LPAREN & rule pattern & tok COMMA & rule pattern & many (tok COMMA & rule pattern) & tok RPAREN & spanless PatternTuple) or name
body expr = rule (level 5)
body (level zero) = rule unary & many cast
body (level (suc n)) = rule (level n) & many (link n)
body unary = ((op NOT 0 or op MINUS 1) & rule unary & step (close Unary first_token last_part)) or (atom & many postfix)
body stmt = statement
body init_let = let_stmt
body init_action = action (tok SEMI)
body for_step = action (step done)
body param = name & tok COLON & rule type & spanless Param
body unit = spanless TypeTuple
body item = function or struct_def or const_def or use_def

-- what a rule adds to the nest: types, allocation types, patterns, expressions and statements count
abbrev pub nests : R → ℕ
nests type = 1
nests alloc = 1
nests pattern = 1
nests expr = 1
nests stmt = 1
nests unary = 0
nests init_let = 0
nests init_action = 0
nests for_step = 0
nests param = 0
nests unit = 0
nests item = 0
nests (level n) = 0

-- items, none or more
abbrev pub file : G
file = many (rule item)

-- all tokens are derived if items use them up; the tree is their nodes in order, every field, and the literals with an unknown suffix
pub record Tree (x : Input) (nodes : List Node) (unknown : List Token) : Type 0 where
  pub last : S
  pub derived : Derives body x file begin (got last)
  pub all : last.at ≡ length x.tokens
  pub these : last.nodes ≡ nodes
  pub unknowns : last.unknown ≡ unknown

-- an attempt takes a token at nest above 64
pub record Deep (x : Input) : Type 0 where
  pub token : ℕ
  pub nest : ℕ
  pub above : 64 < nest
  pub takes : Takes body x nests token nest file 0 begin

-- some attempt takes the token i
abbrev pub Taken : Input → ℕ → Type 0
Taken x i = (n : ℕ) × Takes body x nests i n file 0 begin

-- wish 2: the token i is the first that no attempt takes
pub record Stops (x : Input) (i : ℕ) : Type 0 where
  pub taken : (j : ℕ) → j < i → Taken x j
  pub untaken : Taken x i → ⊥
