-- Demand 1, as far as it is not said by the contract having no premise: one of the numbered outcomes, and after a refusal the token and node tables are all zero. Assumes nothing.
use mathlib.Core.Path.{◌≡◌, refl, sym, ap, ◌∙◌}
use mathlib.Core.Bool.{true, false≢true}
use mathlib.Core.List.{List, []}
use Prim.Native.Nat.{ℕ, ◌≤◌}
use native.Mathlib.Omega.{arith}
use lib.ListN.{replicate}
use Rattle.std.specs.Prelude.{Ok, Err, is_err}
use Rattle.tables.specs.Tables.{encode_token, encode_node, token_table, node_table}
use Rattle.tables.proofs.Laws.{table_none}
use Rattle.lexer.specs.declared.lexing.TextError.{TextError}
use Rattle.lexer.specs.declared.entry.LexError.{LexError}
use Rattle.cairo_m.specs.declared.Refusal.{Refusal}
use Rattle.cairo_m.specs.Reading.{Outcome, accepted, long, encoding, lexical, token_room, nest, syntax, suffix, node_room, Reading, reading_of, tokens_of, nodes_of, ReadingIs, outcome_of}

pub numbered : (r : Reading) → outcome_of r ≤ 8
numbered (Ok a) = omega arith
numbered (Err (Refusal.Lexing (LexError.Text TextError.Long))) = omega arith
numbered (Err (Refusal.Lexing (LexError.Text TextError.Encoding))) = omega arith
numbered (Err (Refusal.Lexing (LexError.Lexical d))) = omega arith
numbered (Err (Refusal.Lexing (LexError.TokenRoom t))) = omega arith
numbered (Err Refusal.Nest) = omega arith
numbered (Err (Refusal.NodeRoom n)) = omega arith
numbered (Err Refusal.Syntax) = omega arith
numbered (Err (Refusal.Suffix d)) = omega arith

pub none_out : (o : Outcome) → is_err (reading_of o) ≡ true → (tokens_of o ≡ []) × (nodes_of o ≡ [])
none_out (accepted ts ns) h = absurd (false≢true h)
none_out long h = (refl, refl)
none_out encoding h = (refl, refl)
none_out (lexical ds) h = (refl, refl)
none_out (token_room ts) h = (refl, refl)
none_out nest h = (refl, refl)
none_out (syntax d) h = (refl, refl)
none_out (suffix us) h = (refl, refl)
none_out (node_room ns) h = (refl, refl)

refused : (r : Reading) → (outcome_of r ≡ 0 → ⊥) → is_err r ≡ true
refused (Ok a) h = absurd (h refl)
refused (Err e) h = refl

pub all_zero : {text : List ℕ} {k m n : ℕ} {a b c : List ℕ} {r : Reading} → ReadingIs text k m n a b c r → (outcome_of r ≡ 0 → ⊥) → (a ≡ replicate k 0) × (b ≡ replicate m 0)
all_zero {k = k} {m} {r = r} v h =
    let e = none_out v.outcome (ap is_err (sym v.answer) ∙ refused r h) in
    (v.tokens ∙ ap (token_table k) e.0 ∙ table_none encode_token 16 k, v.nodes ∙ ap (node_table m) e.1 ∙ table_none encode_node 16 m)
