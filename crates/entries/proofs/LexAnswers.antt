-- The numbers of lexing alone, and that two answers agree. Assumes nothing.
use mathlib.Core.Path.{◌≡◌, sym, ap, ◌∙◌}
use mathlib.Core.List.{List}
use Prim.Native.Nat.{ℕ}
use Rattle.lexer.proofs.Determined.{answer_one}
use Rattle.cairo_m.specs.Reading.{outcome_of, counts_of}
use Rattle.entries.specs.Tokens.{without_nodes, LexIs}

module _ {text : List ℕ} {n m : ℕ} {a b a' b' : List ℕ} where
  pub lex_one : {o t d o' t' d' : ℕ} → LexIs text n m a b o t d → LexIs text n m a' b' o' t' d' → (o ≡ o') × (t ≡ t') × (d ≡ d') × (a ≡ a') × (b ≡ b')
  lex_one p q =
      let e = answer_one p.answered q.answered in
      let c = ap (λ r. counts_of (without_nodes r)) e.0 in (
        p.outcome_is ∙ ap (λ r. outcome_of (without_nodes r)) e.0 ∙ sym q.outcome_is,
        p.tokens_are ∙ ap (λ c. c.tokens) c ∙ sym q.tokens_are,
        p.diagnostics_are ∙ ap (λ c. c.diagnostics) c ∙ sym q.diagnostics_are,
        e.1,
        e.2,
      )
