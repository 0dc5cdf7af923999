use mathlib.Core.Path.{refl}
use Rattle.std.proofs.Common.{rules}
use native.Mathlib.Omega.{arith}
use Rattle.patterns.specs.Bytes.{same, starts}
use Rattle.lexer.specs.Kinds.{fixed_of, texts}
use Rattle.lexer.specs.declared.class.TheConstants.{KEYS, KEYWORDS}
use Rattle.lexer.proofs.Texts.{KeyTable, key_table, key_within, no_key, a_keyword, no_keyword, too_short, too_long}
use Rattle.lexer.proofs.class.keyword.Goals.{else-kind-ne0-via-then-kind-ne0+else-eq, else-kind-ne0-via-else-kind-ne0}
use Rattle.lexer.proofs.class.keyword.Goals as goal

table : KeyTable KEYS KEYWORDS
unfolding fixed_of texts same starts
table = key_table KEYS KEYWORDS refl refl tt tt

pub returns-in_default : goal.returns-in_default
returns-in_default c = search (rules, too_short)

pub returns-in_default-2 : goal.returns-in_default-2
returns-in_default-2 c = search (rules, too_long)

pub bounds-kind : goal.bounds-kind
bounds-kind c = key_within table c.key.ensures.1

pub returns-then-eq : goal.returns-then-eq
returns-then-eq c = a_keyword table c.key.ensures.1 _ (omega arith) c.key.ensures.0 c.spelled.ensures c.eq.ensures c.if-eq.true

pub returns : goal.returns
returns c =
    elim c.else-kind-ne0.branch [
      | else-kind-ne0-via-then-kind-ne0+else-eq w ↦ no_keyword table c.key.ensures.1 _ (omega arith) c.key.ensures.0 w.spelled.ensures w.eq.ensures w.if-eq.false
      | else-kind-ne0-via-else-kind-ne0 w ↦ no_key table c.key.ensures.1 c.key.ensures.0 w.if-kind-ne0.false
    ]
