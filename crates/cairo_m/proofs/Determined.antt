-- A text has one outcome, and so a reading has one answer: number, counts and every byte of the tables. Assumes nothing.
use mathlib.Core.Path.{◌≡◌, refl, sym, ap, subst, ◌∙◌}
use mathlib.Core.List.{List, [], ◌∷◌}
use Prim.Native.Nat.{ℕ}
use native.Mathlib.Omega.{arith}
use lib.ListN.{length}
use Rattle.tables.specs.Tables.{Token, Diagnostic, token_table, node_table, diagnostic_table}
use Rattle.lexer.specs.Lexes.{Lexes}
use Rattle.lexer.proofs.Determined.{lexes_one}
use Rattle.grammar.proofs.Whole.{tree_one, stops_one}
use Rattle.cairo_m.specs.Reading.{Outcome, accepted, lexical, token_room, syntax, suffix, node_room, StopIs, at_token, at_end}
use Rattle.cairo_m.specs.Reading.{TokensAre, is_nest, is_syntax, is_suffix, is_node_room, is_accepted, OutcomeIs, is_long, is_encoding, is_lexical, is_token_room, is_lexed}
use Rattle.cairo_m.specs.Reading.{Reading, reading_of, tokens_of, nodes_of, diagnostics_of, ReadingIs}

-- ---- what the tokens come to
-- where it stopped
pub stop_one : {text : List ℕ} {ts : List Token} {d e : Diagnostic} → StopIs text ts d → StopIs text ts e → d ≡ e
stop_one (at_token s h) (at_token t k) = rw (stops_one s t) refl
stop_one (at_token s h) (at_end a) = absurd (s.untaken (a _ h))
stop_one (at_end a) (at_token s h) = absurd (s.untaken (a _ h))
stop_one (at_end a) (at_end b) = refl

tokens_one : {text : List ℕ} {n : ℕ} {ts : List Token} {o p : Outcome} → TokensAre text n ts o → TokensAre text n ts p → o ≡ p
tokens_one (is_nest d) (is_nest e) = refl
tokens_one (is_nest d) (is_syntax e s j) = absurd (e d)
tokens_one (is_nest d) (is_suffix e t) = absurd (e d)
tokens_one (is_nest d) (is_node_room e t h) = absurd (e d)
tokens_one (is_nest d) (is_accepted e t h) = absurd (e d)
tokens_one (is_syntax d s i) (is_nest e) = absurd (d e)
tokens_one (is_syntax d s i) (is_syntax e r j) = ap syntax (stop_one i j)
tokens_one (is_syntax d s i) (is_suffix e t) = absurd (s _ _ t)
tokens_one (is_syntax d s i) (is_node_room e t h) = absurd (s _ _ t)
tokens_one (is_syntax d s i) (is_accepted e t h) = absurd (s _ _ t)
tokens_one (is_suffix d s) (is_nest e) = absurd (d e)
tokens_one (is_suffix d s) (is_syntax e r j) = absurd (r _ _ s)
tokens_one (is_suffix d s) (is_suffix e t) = ap suffix (tree_one s t).1
tokens_one (is_suffix d s) (is_node_room e t h) = cc ((tree_one s t).1)
tokens_one (is_suffix d s) (is_accepted e t h) = cc ((tree_one s t).1)
tokens_one (is_node_room d s h) (is_nest e) = absurd (d e)
tokens_one (is_node_room d s h) (is_syntax e r j) = absurd (r _ _ s)
tokens_one (is_node_room d s h) (is_suffix e t) = cc ((tree_one t s).1)
tokens_one (is_node_room d s h) (is_node_room e t k) = ap node_room (tree_one s t).0
tokens_one (is_node_room d s h) (is_accepted e t k) = let q = ap length (tree_one s t).0 in absurd (omega arith)
tokens_one (is_accepted d s h) (is_nest e) = absurd (d e)
tokens_one (is_accepted d s h) (is_syntax e r j) = absurd (r _ _ s)
tokens_one (is_accepted d s h) (is_suffix e t) = cc ((tree_one t s).1)
tokens_one (is_accepted d s h) (is_node_room e t k) = let q = ap length (tree_one s t).0 in absurd (omega arith)
tokens_one {ts = ts} (is_accepted d s h) (is_accepted e t k) = ap (accepted ts) (tree_one s t).0

-- ---- what the text comes to
pub errors_one : {text : List ℕ} {ts us : List Token} {d : Diagnostic} {ds : List Diagnostic} → Lexes 0 text ts (d ∷ ds) → Lexes 0 text us [] → ⊥
errors_one l m = cc ((lexes_one l m).1)

pub moved : {text : List ℕ} {n : ℕ} {ts us : List Token} {o : Outcome} → Lexes 0 text us [] → Lexes 0 text ts [] → TokensAre text n us o → TokensAre text n ts o
moved {text} {n} {o = o} l m a = subst (λ (x : List Token). TokensAre text n x o) (lexes_one l m).0 a

pub outcome_one : {text : List ℕ} {t n : ℕ} {o p : Outcome} → OutcomeIs text t n o → OutcomeIs text t n p → o ≡ p
outcome_one (is_long h) (is_long k) = refl
outcome_one (is_long h) (is_encoding k v) = absurd (omega arith)
outcome_one (is_long h) (is_lexical k v m) = absurd (omega arith)
outcome_one (is_long h) (is_token_room k v m r) = absurd (omega arith)
outcome_one (is_long h) (is_lexed k v m r b) = absurd (omega arith)
outcome_one (is_encoding h u) (is_long k) = absurd (omega arith)
outcome_one (is_encoding h u) (is_encoding k v) = refl
outcome_one (is_encoding h u) (is_lexical k v m) = absurd (u v)
outcome_one (is_encoding h u) (is_token_room k v m r) = absurd (u v)
outcome_one (is_encoding h u) (is_lexed k v m r b) = absurd (u v)
outcome_one (is_lexical h u l) (is_long k) = absurd (omega arith)
outcome_one (is_lexical h u l) (is_encoding k v) = absurd (v u)
outcome_one (is_lexical h u l) (is_lexical k v m) = ap lexical (lexes_one l m).1
outcome_one (is_lexical h u l) (is_token_room k v m r) = absurd (errors_one l m)
outcome_one (is_lexical h u l) (is_lexed k v m r b) = absurd (errors_one l m)
outcome_one (is_token_room h u l q) (is_long k) = absurd (omega arith)
outcome_one (is_token_room h u l q) (is_encoding k v) = absurd (v u)
outcome_one (is_token_room h u l q) (is_lexical k v m) = absurd (errors_one m l)
outcome_one (is_token_room h u l q) (is_token_room k v m r) = ap token_room (lexes_one l m).0
outcome_one (is_token_room h u l q) (is_lexed k v m r b) = let e = ap length (lexes_one l m).0 in absurd (omega arith)
outcome_one (is_lexed h u l q a) (is_long k) = absurd (omega arith)
outcome_one (is_lexed h u l q a) (is_encoding k v) = absurd (v u)
outcome_one (is_lexed h u l q a) (is_lexical k v m) = absurd (errors_one m l)
outcome_one (is_lexed h u l q a) (is_token_room k v m r) = let e = ap length (lexes_one l m).0 in absurd (omega arith)
outcome_one (is_lexed h u l q a) (is_lexed k v m r b) = tokens_one a (moved m l b)

-- ---- the answers
module _ {text : List ℕ} {k m n : ℕ} {a b c a' b' c' : List ℕ} where
  pub reading_one : {r r' : Reading} → ReadingIs text k m n a b c r → ReadingIs text k m n a' b' c' r' → (r ≡ r') × (a ≡ a') × (b ≡ b') × (c ≡ c')
  reading_one p q =
      let e = outcome_one p.is q.is in (
        p.answer ∙ ap reading_of e ∙ sym q.answer,
        p.tokens ∙ ap (λ (o : Outcome). token_table k (tokens_of o)) e ∙ sym q.tokens,
        p.nodes ∙ ap (λ (o : Outcome). node_table m (nodes_of o)) e ∙ sym q.nodes,
        p.diagnostics ∙ ap (λ (o : Outcome). diagnostic_table n (diagnostics_of o)) e ∙ sym q.diagnostics,
      )
