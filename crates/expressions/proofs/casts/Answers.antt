-- `casts` meets its contract. Assumes nothing.
use Rattle.cursor.proofs.Reading.{not_of_kind, many_miss}
use Rattle.expressions.proofs.casts.Goals as goal

pub returns-then-not-is : goal.returns-then-not-is
returns-then-not-is c = many_miss c.peek-k.ensures ((not_of_kind c.if-not-is.ensures), tt) tt

pub returns : goal.returns
returns c = c.many.ensures
