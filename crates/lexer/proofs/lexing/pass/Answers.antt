use native.Mathlib.Omega.{arith}
use borrow.Author.Rules.{rules}
use Rattle.lexer.specs.Scans.{Refused}
use Rattle.lexer.proofs.Going.{going_none, going_white, going_skipped, going_token, going_literal, going_error, going_done, going_broken, turned, reason_is, suffix_is}
use Rattle.lexer.proofs.lexing.pass.Goals as goal

pub returns-then-text-gt65535-clause-refused : goal.returns-then-text-gt65535-clause-refused
returns-then-text-gt65535-clause-refused c = Refused.too_long c.if-text-gt65535.true

pub loop-at-init : goal.loop-at-init
loop-at-init c = going_none c.if-text-gt65535.false

pub loop-at-preserved-then-c-eq-WHITE : goal.loop-at-preserved-then-c-eq-WHITE
loop-at-preserved-then-c-eq-WHITE c = going_white c.loop-at.invariant c.class_of-c.ensures c.loop-at-test.true (c.type_inv.text c.loop-at.at).fits c.if-c-eq-WHITE.true

pub returns-in_err-item-clause-refused : goal.returns-in_err-item-clause-refused
returns-in_err-item-clause-refused c = going_broken c.loop-at.invariant c.step.ensures c.in_err-item.was _ c.from_residual.ensures.1

pub overflow_cast-end : goal.overflow_cast-end
overflow_cast-end c = let h = turned c.in_ok-item.ensures in omega arith

pub overflow_add-at-else-c-eq-WHITE : goal.overflow_add-at-else-c-eq-WHITE
overflow_add-at-else-c-eq-WHITE c = let h = turned c.in_ok-item.ensures in omega arith

pub loop-at-preserved-in-Skipped : goal.loop-at-preserved-in-Skipped
loop-at-preserved-in-Skipped c = going_skipped c.loop-at.invariant c.in_ok-item.ensures c.in-Skipped.is

pub loop-at-preserved-in-Token : goal.loop-at-preserved-in-Token
loop-at-preserved-in-Token c = going_token c.loop-at.invariant c.in_ok-item.ensures c.in-Token.is c.put.ensures (search rules) (search rules) (search rules)

pub loop-at-preserved-in-Literal : goal.loop-at-preserved-in-Literal
loop-at-preserved-in-Literal c = going_literal c.loop-at.invariant c.in_ok-item.ensures c.in-Literal.is c.put-in-Literal.ensures (suffix_is c.in-Literal.literal.suffix) (search rules) (cc)

pub loop-at-preserved : goal.loop-at-preserved
loop-at-preserved c = going_error c.loop-at.invariant c.in_ok-item.ensures c.in-Error.is (reason_is c.in-Error.reason) c.put-in-Error.ensures

pub returns-clause-done : goal.returns-clause-done
returns-clause-done c = search (rules, going_done)
