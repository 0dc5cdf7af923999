-- What a choice of operators reads. Assumes nothing.
use Rattle.std.specs.Prelude.{List, [], ◌∷◌, ℕ}
use Rattle.tables.specs.TokenKinds.{kind_of}
use Rattle.tables.specs.declared.token_type.TokenType.{TokenType}
use Rattle.grammar.specs.Derive.{G, step, done, ◌or◌}
use Rattle.grammar.specs.Grammar.{op}
use Rattle.grammar.specs.declared.node_value.BinaryOp.{BinaryOp}

-- what a Binary's value says
abbrev pub binary_number : BinaryOp → ℕ
binary_number BinaryOp.Add = 0
binary_number BinaryOp.Sub = 1
binary_number BinaryOp.Mul = 2
binary_number BinaryOp.Div = 3
binary_number BinaryOp.Mod = 4
binary_number BinaryOp.Eq = 5
binary_number BinaryOp.Neq = 6
binary_number BinaryOp.Less = 7
binary_number BinaryOp.Greater = 8
binary_number BinaryOp.LessEqual = 9
binary_number BinaryOp.GreaterEqual = 10
binary_number BinaryOp.And = 11
binary_number BinaryOp.Or = 12
binary_number BinaryOp.BitwiseAnd = 13
binary_number BinaryOp.BitwiseOr = 14
binary_number BinaryOp.BitwiseXor = 15

-- the first of these that is there; of none, nothing
abbrev pub one_of : List (TokenType × BinaryOp) → G
one_of [] = step done
one_of (o ∷ []) = op (kind_of o.0) (binary_number o.1)
one_of (o ∷ p ∷ l) = op (kind_of o.0) (binary_number o.1) or one_of (p ∷ l)
