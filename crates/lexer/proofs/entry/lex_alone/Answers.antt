use Rattle.std.proofs.Common.{rules}
use Rattle.lexer.proofs.Entries.{alone_lexical, alone_room}
use Rattle.lexer.proofs.entry.lex_alone.Goals as goal

pub returns-then-lexed-gt0 : goal.returns-then-lexed-gt0
returns-then-lexed-gt0 c = alone_lexical c.lex.ensures c.in_ok-lexed.was c.if-lexed-gt0.true (c.fill.ensures.after (λ y e. e)) (search rules)

pub returns-then-lexed-room : goal.returns-then-lexed-room
returns-then-lexed-room c = alone_room c.lex.ensures c.in_ok-lexed.was c.if-lexed-gt0.false c.room.ensures c.if-lexed-room.true (c.fill-then-lexed-room.ensures.after (λ y e. e)) (search rules)
