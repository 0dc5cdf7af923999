-- 01's texts on the edge of the nest: 63 parentheses are not too deep, 64 are.
-- Assumes nothing.
use Prim.Native.Nat.{ℕ, zero, suc}
use mathlib.Core.Path.{refl}
use mathlib.Core.List.{List, [], ◌∷◌}
use Rattle.tables.specs.TokenKinds.{NUMBER, CONST, IDENT, EQ, LPAREN, RPAREN, SEMI}
use Rattle.grammar.specs.Derive.{Token, Input, part, yields, leave, agree}
use Rattle.grammar.specs.Grammar.{body, Deep}
use Rattle.grammar.proofs.Eval.{eval}
use Rattle.grammar.proofs.Verdict.{is_deep, is_shallow}

abbrev t : ℕ → Token
t k = record { kind = k; suffix = 0; start = 0; end = 0; base = 0; value = 0 }

abbrev times : ℕ → Token → List Token → List Token
times zero a l = l
times (suc n) a l = a ∷ times n a l

-- const A = ((.. 1 ..)); with n pairs of parentheses; the spans do not matter
abbrev nested : ℕ → Input
nested n = record { text = []; tokens = t CONST ∷ t IDENT ∷ t EQ ∷ times n (t LPAREN) (t NUMBER ∷ times n (t RPAREN) (t SEMI ∷ [])) }

pub nested_63 : Deep (nested 63) → ⊥
unfolding eval body part yields leave agree
nested_63 = is_shallow (nested 63) 6000 refl

pub nested_64 : Deep (nested 64)
unfolding eval body part yields leave agree
nested_64 = is_deep (nested 64) 6000 refl
