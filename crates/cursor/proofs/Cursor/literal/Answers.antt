use mathlib.Core.Path.{ap}
use Rattle.tables.specs.Tables.{Token, token_at}
use Rattle.grammar.specs.Derive.{noted}
use Rattle.cursor.proofs.Steps.{emits}
use Rattle.cursor.proofs.Cursor.literal.Goals as goal

pub returns : goal.returns
returns c = let a = c.args in
    let e = c.at-token.ensures in
    emits (λ s. (noted (token_at a.source.now.tokens.now a.self.at) s).unknown) (λ s. rw (ap (λ (t : Token). t.value) e, ap (λ (t : Token). t.base) e, c.literal_kind.ensures, ap (λ (t : Token). t.suffix) e)) c.emit.ensures
