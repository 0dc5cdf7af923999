-- The kinds of nodes, in 01's order, from 1. Assumes nothing.
use Rattle.std.specs.Prelude.{ℕ}
use Rattle.grammar.specs.declared.node_kind.NodeKind.{NodeKind}

abbrev pub Name : ℕ
Name = 1

abbrev pub Named : ℕ
Named = 2

abbrev pub Pointer : ℕ
Pointer = 3

abbrev pub TypeTuple : ℕ
TypeTuple = 4

abbrev pub FixedArray : ℕ
FixedArray = 5

abbrev pub Count : ℕ
Count = 6

abbrev pub Literal : ℕ
Literal = 7

abbrev pub LiteralFelt : ℕ
LiteralFelt = 8

abbrev pub LiteralU32 : ℕ
LiteralU32 = 9

abbrev pub Bool· : ℕ
Bool· = 10

abbrev pub Identifier : ℕ
Identifier = 11

abbrev pub Unary : ℕ
Unary = 12

abbrev pub Binary : ℕ
Binary = 13

abbrev pub Call : ℕ
Call = 14

abbrev pub Member : ℕ
Member = 15

abbrev pub Index : ℕ
Index = 16

abbrev pub StructLiteral : ℕ
StructLiteral = 17

abbrev pub Tuple : ℕ
Tuple = 18

abbrev pub TupleIndex : ℕ
TupleIndex = 19

abbrev pub Array : ℕ
Array = 20

abbrev pub ArrayRepeat : ℕ
ArrayRepeat = 21

abbrev pub Cast : ℕ
Cast = 22

abbrev pub New : ℕ
New = 23

abbrev pub Paren : ℕ
Paren = 24

abbrev pub PatternTuple : ℕ
PatternTuple = 25

abbrev pub Let : ℕ
Let = 26

abbrev pub Const : ℕ
Const = 27

abbrev pub Assign : ℕ
Assign = 28

abbrev pub Return : ℕ
Return = 29

abbrev pub If : ℕ
If = 30

abbrev pub ExprStmt : ℕ
ExprStmt = 31

abbrev pub Block : ℕ
Block = 32

abbrev pub Loop : ℕ
Loop = 33

abbrev pub While : ℕ
While = 34

abbrev pub For : ℕ
For = 35

abbrev pub Break : ℕ
Break = 36

abbrev pub Continue : ℕ
Continue = 37

abbrev pub Param : ℕ
Param = 38

abbrev pub Function : ℕ
Function = 39

abbrev pub StructDef : ℕ
StructDef = 40

abbrev pub UseSingle : ℕ
UseSingle = 41

abbrev pub UseList : ℕ
UseList = 42

-- the number of a kind
abbrev pub kind_of : NodeKind → ℕ
kind_of NodeKind.Name = Name
kind_of NodeKind.Named = Named
kind_of NodeKind.Pointer = Pointer
kind_of NodeKind.TypeTuple = TypeTuple
kind_of NodeKind.FixedArray = FixedArray
kind_of NodeKind.Count = Count
kind_of NodeKind.Literal = Literal
kind_of NodeKind.LiteralFelt = LiteralFelt
kind_of NodeKind.LiteralU32 = LiteralU32
kind_of NodeKind.Bool = Bool·
kind_of NodeKind.Identifier = Identifier
kind_of NodeKind.Unary = Unary
kind_of NodeKind.Binary = Binary
kind_of NodeKind.Call = Call
kind_of NodeKind.Member = Member
kind_of NodeKind.Index = Index
kind_of NodeKind.StructLiteral = StructLiteral
kind_of NodeKind.Tuple = Tuple
kind_of NodeKind.TupleIndex = TupleIndex
kind_of NodeKind.Array = Array
kind_of NodeKind.ArrayRepeat = ArrayRepeat
kind_of NodeKind.Cast = Cast
kind_of NodeKind.New = New
kind_of NodeKind.Paren = Paren
kind_of NodeKind.PatternTuple = PatternTuple
kind_of NodeKind.Let = Let
kind_of NodeKind.Const = Const
kind_of NodeKind.Assign = Assign
kind_of NodeKind.Return = Return
kind_of NodeKind.If = If
kind_of NodeKind.ExprStmt = ExprStmt
kind_of NodeKind.Block = Block
kind_of NodeKind.Loop = Loop
kind_of NodeKind.While = While
kind_of NodeKind.For = For
kind_of NodeKind.Break = Break
kind_of NodeKind.Continue = Continue
kind_of NodeKind.Param = Param
kind_of NodeKind.Function = Function
kind_of NodeKind.StructDef = StructDef
kind_of NodeKind.UseSingle = UseSingle
kind_of NodeKind.UseList = UseList
