use mathlib.Core.Path.{sym}
use Rattle.std.proofs.Common.{rules}
use Rattle.tables.proofs.Laws.{filled_zero}
use Rattle.lexer.proofs.Going.{cleared_after}
use Rattle.lexer.proofs.lexing.lex.Goals as goal

pub returns-then-is_err : goal.returns-then-is_err
returns-then-is_err c =
    cleared_after c.args.text.now c.args.tokens.now c.args.diagnostics.now c.pass-r.new.tokens c.pass-r.new.diagnostics (filled_zero _ (c.fill.ensures.after (λ y e. e))) (filled_zero _ (c.fill-then-is_err.ensures.after (λ y e. e))) (search rules) (search rules) c.pass-r.result (sym c.if-is_err.ensures.value) c.pass-r.ensures.refused
