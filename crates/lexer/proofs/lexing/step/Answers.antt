use Rattle.patterns.proofs.Runs.{rest_is}
use Rattle.lexer.proofs.Going.{skip_step, token_step, literal_step, error_step, strange_step, broken_step}
use Rattle.lexer.proofs.lexing.step.Goals as goal

pub returns-in_err-n : goal.returns-in_err-n
returns-in_err-n c = broken_step c.requires.at_in_bounds (rest_is c.args.text.now c.args.at) c.scan.ensures c.in_err-n.was _ c.from_residual.ensures.0

pub returns-in-Skip : goal.returns-in-Skip
returns-in-Skip c = skip_step c.requires.at_in_bounds (rest_is c.args.text.now c.args.at) c.in_ok-n.ensures c.in-Skip.is

pub returns-in-Token : goal.returns-in-Token
returns-in-Token c = token_step c.requires.at_in_bounds (rest_is c.args.text.now c.args.at) c.in_ok-n.ensures c.in-Token.is

pub returns-in-Ok : goal.returns-in-Ok
returns-in-Ok c = literal_step c.requires.at_in_bounds (rest_is c.args.text.now c.args.at) c.in_ok-n.ensures c.in-Number.is c.in-Ok.is

pub returns-in-Err : goal.returns-in-Err
returns-in-Err c = error_step c.requires.at_in_bounds (rest_is c.args.text.now c.args.at) c.in_ok-n.ensures c.in-Number.is c.in-Err.is c.from.ensures

pub returns-in-Strange : goal.returns-in-Strange
returns-in-Strange c = strange_step c.requires.at_in_bounds (rest_is c.args.text.now c.args.at) c.in_ok-n.ensures c.in-Strange.is
