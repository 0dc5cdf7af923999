use mathlib.Core.Path.{refl}
use native.Mathlib.Omega.{arith}
use borrow.Author.Rules.{rules}
use Rattle.cairo_m.proofs.Closing.{closes_nest, closes_syntax, closes_suffix, closes_room, closes_accepted}
use Rattle.cairo_m.proofs.suffixes.read_tokens.Goals as goal

pub returns-in-Err-Deep : goal.returns-in-Err-Deep
returns-in-Err-Deep c = closes_nest c.in-Err-Deep.ensures c.in-Err-Deep.field-0-is

pub returns-in-Err-Syntax : goal.returns-in-Err-Syntax
returns-in-Err-Syntax c = closes_syntax c.in-Err-Syntax.ensures c.in-Err-Syntax.field-0-is refl c.stop.ensures

pub returns-then-unknown-gt0 : goal.returns-then-unknown-gt0
returns-then-unknown-gt0 c = closes_suffix c.in-Ok.ensures c.requires.unknown_value c.if-unknown-gt0.true (c.fill.ensures.after (λ y e. e)) (search rules) c.unknown_suffixes.ensures

pub returns-then-count-room : goal.returns-then-count-room
returns-then-count-room c = closes_room c.in-Ok.ensures c.requires.unknown_value (omega arith) (omega (arith, c.well_formed)) c.room.ensures c.if-count-room.true (c.fill-then-count-room.ensures.after (λ y e. e)) (search rules)

pub returns : goal.returns
returns c = closes_accepted c.in-Ok.ensures c.requires.unknown_value (omega arith) (omega (arith, c.well_formed)) c.room.ensures c.if-count-room.false c.room-2.ensures (search rules)
