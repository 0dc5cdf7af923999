-- `item_at` meets its contract. Assumes nothing.
use Rattle.cursor.proofs.Reading.{refl, body, of_kind, not_of_kind, only, pass, inside_by, const_of, inside_as}
use Rattle.parser.proofs.items.item_at.Goals as goal

pub returns-then-is : goal.returns-then-is
unfolding body
returns-then-is c = inside_by c.begin-start.ensures (only c.peek-k.ensures (of_kind c.if-is.ensures) tt c.function_def-p.ensures) c.ended.ensures

pub returns-then-is-2 : goal.returns-then-is-2
unfolding body
returns-then-is-2 c = inside_by c.begin-start.ensures (pass c.peek-k.ensures ((not_of_kind c.if-is.ensures), tt) tt (only c.peek-k.ensures (of_kind c.if-is-2.ensures) tt c.struct_def-p.ensures)) c.ended-then-is-2.ensures

pub returns-then-is-3 : goal.returns-then-is-3
unfolding body
returns-then-is-3 c = inside_as c.begin-start.ensures (λ e y. (pass c.peek-k.ensures ((not_of_kind c.if-is.ensures), tt) tt (pass c.peek-k.ensures ((not_of_kind c.if-is-2.ensures), tt) tt (only c.peek-k.ensures (of_kind c.if-is-3.ensures) tt (const_of c.peek-k.ensures (of_kind c.if-is-3.ensures) y))))) c.stmt_at-q.ensures refl

pub returns : goal.returns
unfolding body
returns c = inside_by c.begin-start.ensures (pass c.peek-k.ensures ((not_of_kind c.if-is.ensures), tt) tt (pass c.peek-k.ensures ((not_of_kind c.if-is-2.ensures), tt) tt (pass c.peek-k.ensures ((not_of_kind c.if-is-3.ensures), tt) tt c.use_stmt-p.ensures))) c.ended-2.ensures
